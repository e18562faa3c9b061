-- A statement has the tree of a small statement exactly where it is the tree of a form.
use Rattle.std.proofs.Common.{◌≡◌, ℕ, ℤ, pos, negsuc, suc, ◌≤◌, Bool, true, false, not, ◌&&◌, ◌==◌, nat_le, List, [], ◌∷◌, map, length, Option, Some, None, is_none, ◌↔◌, IsTrue, refl, sym, ap, subst, ◌∙◌, arith}
use Rattle.std.specs.List.{list_all, AllByRecursion}
use Rattle.std.proofs.lemmas.Bool.{and_parts, and_from, not-true, leb-true, le-leb, eqb-true}
use Rattle.std.proofs.lemmas.List.{length-map}
use Rattle.lb_tree.specs.declared.query.Comparison.TheVariants as comparisons
use Rattle.lb_tree.specs.declared.query.Comparison.{Comparison}
use Rattle.lb_tree.specs.declared.query.Atom.{Atom}
use Rattle.lb_tree.specs.declared.query.Atom.TheVariants as atoms
use Rattle.lb_tree.specs.declared.query.Column.{Column}
use Rattle.lb_tree.specs.declared.query.Expr.{Expr}
use Rattle.lb_tree.specs.declared.query.Expr.TheVariants as exprs
use Rattle.lb_tree.specs.declared.query.Cond.{Cond}
use Rattle.lb_tree.specs.declared.query.Cond.TheVariants as conds
use Rattle.lb_tree.specs.declared.query.Item.{Item}
use Rattle.lb_tree.specs.declared.query.Item.TheVariants as items
use Rattle.lb_tree.specs.declared.query.Join.{Join}
use Rattle.lb_tree.specs.declared.query.Arm.{Arm}
use Rattle.lb_tree.specs.declared.query.Chain.{Chain}
use Rattle.lb_tree.specs.declared.query.Choice.{Choice}
use Rattle.lb_tree.specs.declared.query.Query.{Query}
use Rattle.lb_tree.specs.declared.query.Signed.{Signed}
use Rattle.lb_tree.specs.declared.query.SortKey.{SortKey}
use Rattle.lb_tree.specs.declared.query.Select.{Select}
use Rattle.lb_tree.specs.declared.query.Cond.TheOpen as layers
use Rattle.lb_tree.specs.declared.query.Cond.TheViews.{out-Expr, roll-Expr, roll-out-Expr, out-roll-Expr, out-Cond, roll-Cond, roll-out-Cond, out-roll-Cond, out-Item, roll-Item, roll-out-Item, out-roll-Item, out-Chain, roll-Chain, roll-out-Chain, out-Query, roll-Query, roll-out-Query, out-roll-Query}
use Rattle.lb_stmt.specs.declared.write.InsertSource.{InsertSource}
use Rattle.lb_stmt.specs.declared.write.InsertSource.TheVariants as sources
use Rattle.lb_stmt.specs.declared.write.Insert.{Insert}
use Rattle.lb_stmt.specs.declared.write.Stmt.{Stmt}
use Rattle.lb_stmt.specs.declared.write.Stmt.TheVariants as stmts
use Rattle.lb_stmt.specs.declared.change.PlainType.TheVariants as plains
use Rattle.lb_stmt.specs.declared.change.ColumnType.{ColumnType}
use Rattle.lb_stmt.specs.declared.change.ColumnType.TheVariants as types
use Rattle.lb_stmt.specs.declared.change.Element.{Element}
use Rattle.lb_stmt.specs.declared.change.Element.TheVariants as elements
use Rattle.lb_stmt.specs.declared.change.Switch.{Switch}
use Rattle.lb_stmt.specs.declared.change.Switch.TheVariants as switches
use Rattle.lb_stmt.specs.declared.change.ControlOf.{ControlOf}
use Rattle.lb_stmt.specs.declared.change.ControlOf.TheVariants as controls
use Rattle.lb_stmt.specs.declared.change.Activation.{Activation}
use Rattle.lb_stmt.specs.declared.change.PermissionDef.{PermissionDef}
use Rattle.lb_stmt.specs.declared.change.Change.{Change}
use Rattle.lb_stmt.specs.declared.change.Change.TheVariants as changes
use Rattle.lb_model.specs.Change.{is_enabled}
use Rattle.lb_model.specs.Evaluation.{ExprLayer, CondLayer}
use Rattle.lb_model.specs.Small.{are_different, TextColumn, Form, table, insert, select, permission, activate, IsColumn, IsForm, plain_tab, element_of, literal_of, whole_table, is_user, statement_of, IsSmall}
use Rattle.lb_refr.specs.Shapes.{is_width, is_varchar, is_text_column, element_name, are_text_columns, is_text_layer, is_text, are_texts, inserts_texts, is_plain, is_star_layer, is_star, is_one_table, is_whole_table, selects_whole_table, is_column_layer, is_user_layer, is_user_test_layer, is_user_test, is_small_permission, is_row_control, activates_row_control, is_small_change, has_small_tree}

abbrev ItemLayer : Type 0
ItemLayer = layers.Item-F Cond Expr Item Join Arm Chain Choice Query Signed

none_back : {A : Type 0} (o : Option A) → is_none o ≡ true → o ≡ None
none_back None h = refl
none_back (Some x) h = absurd cc

empty_back : {A : Type 0} (xs : List A) → (length xs == 0) ≡ true → xs ≡ []
empty_back [] h = refl
empty_back (x ∷ xs) h = let e : suc (length xs) ≡ 0 = eqb-true (suc (length xs)) 0 h in absurd (omega arith)

cons_same : {A : Type 0} (x y : A) (xs ys : List A) → x ≡ y → xs ≡ ys → x ∷ xs ≡ y ∷ ys
cons_same x y xs ys h k = rw (h, k) refl

-- ---- CREATE TABLE

width_back : (w : ℤ) → is_width w ≡ true → (n : ℕ) × (1 ≤ n) × (n ≤ 254) × (w ≡ pos n)
width_back (pos n) h = let p = and_parts (nat_le 1 n) (nat_le n 254) h in (n, leb-true 1 n p.0, leb-true n 254 p.1, refl)
width_back (negsuc n) h = absurd cc

type_back : (ty : ColumnType) → is_varchar ty ≡ true → (n : ℕ) × (1 ≤ n) × (n ≤ 254) × (ty ≡ types.Plain (plains.Text (pos n)))
type_back (types.Plain (plains.Text w)) h = let p = width_back w h in (p.0, p.1, p.2, ap (λ (v : ℤ). types.Plain (plains.Text v)) p.3)
type_back _ h = absurd cc

fields_same : (n : List ℕ) (ty : ColumnType) (b k : Bool) (s : Option (List ℕ)) (w : ℕ)
    → ty ≡ types.Plain (plains.Text (pos w)) → b ≡ false → k ≡ false → s ≡ None
    → elements.Column (record { name = n; ty = ty; not_null = b; key = k; secured = s }) ≡ element_of (record { name = n; width = w })
fields_same n ty b k s w h i j l = rw (h, i, j, l) refl

column_back : (e : Element) → is_text_column e ≡ true → (c : TextColumn) × IsColumn c × (e ≡ element_of c)
column_back (elements.Column d) h =
    let p = and_parts (is_varchar d.ty && not d.not_null && not d.key) (is_none d.secured) h in
    let q = and_parts (is_varchar d.ty && not d.not_null) (not d.key) p.0 in
    let r = and_parts (is_varchar d.ty) (not d.not_null) q.0 in
    let w = type_back d.ty r.0 in
    (record { name = d.name; width = w.0 }, (w.1, w.2), fields_same d.name d.ty d.not_null d.key d.secured w.0 w.3 (not-true d.not_null r.1) (not-true d.key q.1) (none_back d.secured p.1))
column_back (elements.Key n) h = absurd cc

columns_back : (es : List Element) → list_all is_text_column es ≡ true → (cs : List TextColumn) × AllByRecursion IsColumn cs × (es ≡ map element_of cs)
columns_back [] h = ([], tt, refl)
columns_back (e ∷ es) h =
    let p = and_parts (is_text_column e) (list_all is_text_column es) h in
    let a = column_back e p.0 in
    let b = columns_back es p.1 in
    (a.0 ∷ b.0, (a.1, b.1), cons_same e (element_of a.0) es (map element_of b.0) a.2 b.2)

names_same : (cs : List TextColumn) → map element_name (map element_of cs) ≡ map (λ c. c.name) cs
names_same [] = refl
names_same (c ∷ cs) = ap (λ (ns : List (List ℕ)). c.name ∷ ns) (names_same cs)

some_back : (n : ℕ) → not (n == 0) ≡ true → 1 ≤ n
some_back n h = grind (arith, h)

some_from : (n : ℕ) → 1 ≤ n → not (n == 0) ≡ true
some_from n h = grind (arith, h)

table_same : (t : List ℕ) (es fs : List Element) (policy : Option (List ℕ)) → es ≡ fs → policy ≡ None → stmts.Change (changes.CreateTable t es policy) ≡ stmts.Change (changes.CreateTable t fs None)
table_same t es fs policy h k = rw (h, k) refl

table_back : (t : List ℕ) (es : List Element) (policy : Option (List ℕ)) → (is_none policy && are_text_columns es) ≡ true → IsSmall (stmts.Change (changes.CreateTable t es policy))
table_back t es policy h =
    let o = and_parts (is_none policy) (are_text_columns es) h in
    let p = and_parts (not (length es == 0) && nat_le (length es) 64 && list_all is_text_column es) (are_different (map element_name es)) o.1 in
    let q = and_parts (not (length es == 0) && nat_le (length es) 64) (list_all is_text_column es) p.0 in
    let r = and_parts (not (length es == 0)) (nat_le (length es) 64) q.0 in
    let b = columns_back es q.1 in
    let l : length es ≡ length b.0 = ap length b.2 ∙ length-map b.0 element_of in
    let n : map element_name es ≡ map (λ c. c.name) b.0 = ap (map element_name) b.2 ∙ names_same b.0 in (
      table t b.0,
      (
        subst (λ (k : ℕ). 1 ≤ k) l (some_back (length es) r.0),
        subst (λ (k : ℕ). k ≤ 64) l (leb-true (length es) 64 r.1),
        b.1,
        subst (λ (ns : List (List ℕ)). are_different ns ≡ true) n p.1,
      ),
      table_same t es (map element_of b.0) policy b.2 (none_back policy o.0),
    )

column_from : (c : TextColumn) → IsColumn c → is_text_column (element_of c) ≡ true
column_from c h = let a = le-leb 1 c.width h.0 in let b = le-leb c.width 254 h.1 in rw (a, b) refl

columns_from : (cs : List TextColumn) → AllByRecursion IsColumn cs → list_all is_text_column (map element_of cs) ≡ true
columns_from [] h = refl
columns_from (c ∷ cs) h = and_from (is_text_column (element_of c)) (list_all is_text_column (map element_of cs)) (column_from c h.0) (columns_from cs h.1)

table_from : (cs : List TextColumn) → 1 ≤ length cs → length cs ≤ 64 → AllByRecursion IsColumn cs → are_different (map (λ c. c.name) cs) ≡ true → are_text_columns (map element_of cs) ≡ true
table_from cs some most all different =
    let es : List Element = map element_of cs in
    let l : length cs ≡ length es = sym (length-map cs element_of) in
    and_from (not (length es == 0) && nat_le (length es) 64 && list_all is_text_column es) (are_different (map element_name es))
    (and_from (not (length es == 0) && nat_le (length es) 64) (list_all is_text_column es)
    (and_from (not (length es == 0)) (nat_le (length es) 64)
    (some_from (length es) (subst (λ (k : ℕ). 1 ≤ k) l some))
    (le-leb (length es) 64 (subst (λ (k : ℕ). k ≤ 64) l most)))
    (columns_from cs all))
    (subst (λ (ns : List (List ℕ)). are_different ns ≡ true) (sym (names_same cs)) different)

-- ---- INSERT

text_layer_back : (x : ExprLayer) → is_text_layer x ≡ true → (t : List ℕ) × (roll-Expr x ≡ literal_of t)
text_layer_back (layers.Expr-F.Atom (atoms.Text t)) h = (t, exprs.rolls-Atom (atoms.Text t))
text_layer_back _ h = absurd cc

text_back : (e : Expr) → is_text e ≡ true → (t : List ℕ) × (e ≡ literal_of t)
text_back e h = let p = text_layer_back (out-Expr e) h in (p.0, sym (roll-out-Expr e) ∙ p.1)

row_back : (es : List Expr) → list_all is_text es ≡ true → (ts : List (List ℕ)) × (es ≡ map literal_of ts)
row_back [] h = ([], refl)
row_back (e ∷ es) h =
    let p = and_parts (is_text e) (list_all is_text es) h in
    let a = text_back e p.0 in
    let b = row_back es p.1 in
    (a.0 ∷ b.0, cons_same e (literal_of a.0) es (map literal_of b.0) a.1 b.1)

rows_back : (rows : List (List Expr)) → list_all (list_all is_text) rows ≡ true → (ts : List (List (List ℕ))) × (rows ≡ map (map literal_of) ts)
rows_back [] h = ([], refl)
rows_back (r ∷ rows) h =
    let p = and_parts (list_all is_text r) (list_all (list_all is_text) rows) h in
    let a = row_back r p.0 in
    let b = rows_back rows p.1 in
    (a.0 ∷ b.0, cons_same r (map literal_of a.0) rows (map (map literal_of) b.0) a.1 b.1)

source_back : (s : InsertSource) → are_texts s ≡ true → (ts : List (List (List ℕ))) × (s ≡ sources.Rows (map (map literal_of) ts))
source_back (sources.Rows rows) h = let p = rows_back rows h in (p.0, ap (λ (rs : List (List Expr)). sources.Rows rs) p.1)
source_back (sources.Query q) h = absurd cc

insert_same : (t : List ℕ) (ns : Option (List (List ℕ))) (a b : InsertSource) → ns ≡ None → a ≡ b → stmts.Insert (record { table = t; columns = ns; source = a }) ≡ stmts.Insert (record { table = t; columns = None; source = b })
insert_same t ns a b h k = rw (h, k) refl

insert_back : (i : Insert) → inserts_texts i ≡ true → IsSmall (stmts.Insert i)
insert_back i h =
    let p = and_parts (is_none i.columns) (are_texts i.source) h in
    let s = source_back i.source p.1 in
    (insert i.table s.0, tt, insert_same i.table i.columns i.source (sources.Rows (map (map literal_of) s.0)) (none_back i.columns p.0) s.1)

out_Atom : (a : Atom) → out-Expr (exprs.Atom a) ≡ layers.Expr-F.Atom a
out_Atom a = ap out-Expr (sym (exprs.rolls-Atom a)) ∙ out-roll-Expr (layers.Expr-F.Atom a)

text_from : (t : List ℕ) → is_text (literal_of t) ≡ true
text_from t = ap is_text_layer (out_Atom (atoms.Text t))

row_from : (ts : List (List ℕ)) → list_all is_text (map literal_of ts) ≡ true
row_from [] = refl
row_from (t ∷ ts) = and_from (is_text (literal_of t)) (list_all is_text (map literal_of ts)) (text_from t) (row_from ts)

rows_from : (rows : List (List (List ℕ))) → list_all (list_all is_text) (map (map literal_of) rows) ≡ true
rows_from [] = refl
rows_from (r ∷ rows) = and_from (list_all is_text (map literal_of r)) (list_all (list_all is_text) (map (map literal_of) rows)) (row_from r) (rows_from rows)

-- ---- SELECT

star_layer_back : (x : ItemLayer) → is_star_layer x ≡ true → roll-Item x ≡ items.Everything
star_layer_back layers.Item-F.Everything h = items.rolls-Everything
star_layer_back _ h = absurd cc

star_back : (is : List Item) → is_star is ≡ true → is ≡ items.Everything ∷ []
star_back [] h = absurd cc
star_back (i ∷ []) h = ap (λ (j : Item). j ∷ []) (sym (roll-out-Item i) ∙ star_layer_back (out-Item i) h)
star_back (i ∷ j ∷ is) h = absurd cc

chain_same : (t : List ℕ) (k : Option (List ℕ)) (js : List Join) → k ≡ None → js ≡ [] → roll-Chain (record { first = record { table = t; correlation = k }; joins = js }) ≡ roll-Chain (record { first = plain_tab t; joins = [] })
chain_same t k js h i = rw (h, i) refl

from_back : (cs : List Chain) → is_one_table cs ≡ true → (t : List ℕ) × (cs ≡ roll-Chain (record { first = plain_tab t; joins = [] }) ∷ [])
from_back [] h = absurd cc
from_back (c ∷ []) h =
    let p = and_parts (is_plain (out-Chain c).first) (length (out-Chain c).joins == 0) h in
    let t : List ℕ = (out-Chain c).first.table in
    (t, ap (λ (d : Chain). d ∷ []) (sym (roll-out-Chain c) ∙ chain_same t (out-Chain c).first.correlation (out-Chain c).joins (none_back (out-Chain c).first.correlation p.0) (empty_back (out-Chain c).joins p.1)))
from_back (c ∷ d ∷ cs) h = absurd cc

query_same : (t : List ℕ) (d : Bool) (is : List Item) (cs : List Chain) (f : Option Cond) (g : List Column) (v : Option Cond)
    → d ≡ false → is ≡ items.Everything ∷ [] → cs ≡ roll-Chain (record { first = plain_tab t; joins = [] }) ∷ [] → f ≡ None → g ≡ [] → v ≡ None
    → roll-Query (record { distinct = d; items = is; from = cs; filter = f; group = g; having = v }) ≡ whole_table t
query_same t d is cs f g v h i j k l m = rw (h, i, j, k, l, m) refl

query_back : (q : Query) → is_whole_table q ≡ true → (t : List ℕ) × (q ≡ whole_table t)
query_back q h =
    let o = out-Query q in
    let p = and_parts (not o.distinct && is_star o.items && is_one_table o.from && is_none o.filter && (length o.group == 0)) (is_none o.having) h in
    let r = and_parts (not o.distinct && is_star o.items && is_one_table o.from && is_none o.filter) (length o.group == 0) p.0 in
    let s = and_parts (not o.distinct && is_star o.items && is_one_table o.from) (is_none o.filter) r.0 in
    let u = and_parts (not o.distinct && is_star o.items) (is_one_table o.from) s.0 in
    let v = and_parts (not o.distinct) (is_star o.items) u.0 in
    let t = from_back o.from u.1 in
    (t.0, sym (roll-out-Query q) ∙ query_same t.0 o.distinct o.items o.from o.filter o.group o.having (not-true o.distinct v.0) (star_back o.items v.1) t.1 (none_back o.filter s.1) (empty_back o.group r.1) (none_back o.having p.1))

select_same : (q r : Query) (ks : List SortKey) (f : Option ℤ) → q ≡ r → ks ≡ [] → f ≡ None → stmts.Select (record { query = q; order = ks; fetch = f }) ≡ stmts.Select (record { query = r; order = []; fetch = None })
select_same q r ks f h i j = rw (h, i, j) refl

select_back : (s : Select) → selects_whole_table s ≡ true → IsSmall (stmts.Select s)
select_back s h =
    let p = and_parts (is_whole_table s.query && (length s.order == 0)) (is_none s.fetch) h in
    let r = and_parts (is_whole_table s.query) (length s.order == 0) p.0 in
    let w = query_back s.query r.0 in
    (select w.0, tt, select_same s.query (whole_table w.0) s.order s.fetch w.1 (empty_back s.order r.1) (none_back s.fetch p.1))

out_Everything : out-Item items.Everything ≡ layers.Item-F.Everything
out_Everything = ap out-Item (sym items.rolls-Everything) ∙ out-roll-Item layers.Item-F.Everything

query_from : (t : List ℕ) → is_whole_table (whole_table t) ≡ true
query_from t = simp (out-roll-Query, out_Everything)

select_from : (t : List ℕ) → has_small_tree (statement_of (select t)) ≡ true
select_from t = rw (query_from t) refl

-- ---- CREATE PERMISSION

column_same : (n : List ℕ) (k : Option (List ℕ)) → k ≡ None → exprs.Atom (atoms.Column (record { correlation = k; name = n })) ≡ exprs.Atom (atoms.Column (record { correlation = None; name = n }))
column_same n k h = rw h refl

column_layer_back : (x : ExprLayer) → is_column_layer x ≡ true → (n : List ℕ) × (roll-Expr x ≡ exprs.Atom (atoms.Column (record { correlation = None; name = n })))
column_layer_back (layers.Expr-F.Atom (atoms.Column c)) h = (c.name, exprs.rolls-Atom (atoms.Column c) ∙ column_same c.name c.correlation (none_back c.correlation h))
column_layer_back _ h = absurd cc

user_layer_back : (x : ExprLayer) → is_user_layer x ≡ true → roll-Expr x ≡ exprs.Atom atoms.SessionUser
user_layer_back (layers.Expr-F.Atom atoms.SessionUser) h = exprs.rolls-Atom atoms.SessionUser
user_layer_back _ h = absurd cc

compare_same : (a b c d : Expr) → a ≡ c → b ≡ d → conds.Compare comparisons.Equal a b ≡ conds.Compare comparisons.Equal c d
compare_same a b c d h i = rw (h, i) refl

user_test_layer_back : (x : CondLayer) → is_user_test_layer x ≡ true → (n : List ℕ) × (roll-Cond x ≡ is_user n)
user_test_layer_back (layers.Cond-F.Compare comparisons.Equal a b) h =
    let p = and_parts (is_column_layer (out-Expr a)) (is_user_layer (out-Expr b)) h in
    let n = column_layer_back (out-Expr a) p.0 in
    (n.0, conds.rolls-Compare comparisons.Equal a b ∙ compare_same a b (exprs.Atom (atoms.Column (record { correlation = None; name = n.0 }))) (exprs.Atom atoms.SessionUser) (sym (roll-out-Expr a) ∙ n.1) (sym (roll-out-Expr b) ∙ user_layer_back (out-Expr b) p.1))
user_test_layer_back _ h = absurd cc

user_test_back : (q : Cond) → is_user_test q ≡ true → (n : List ℕ) × (q ≡ is_user n)
user_test_back q h = let p = user_test_layer_back (out-Cond q) h in (p.0, sym (roll-out-Cond q) ∙ p.1)

enabled_back : (s : Switch) → is_enabled s ≡ true → s ≡ switches.Enable
enabled_back switches.Enable h = refl
enabled_back switches.Disable h = absurd cc

permission_same : (r : Bool) (p t : List ℕ) (k : Option (List ℕ)) (q : Cond) (s : Switch) (n : List ℕ)
    → r ≡ false → k ≡ None → q ≡ is_user n → s ≡ switches.Enable
    → stmts.Change (changes.CreatePermission (record { replace = r; name = p; on = record { table = t; correlation = k }; condition = q; switch = s })) ≡ statement_of (permission p t n)
permission_same r p t k q s n h i j l = rw (h, i, j, l) refl

permission_back : (d : PermissionDef) → is_small_permission d ≡ true → IsSmall (stmts.Change (changes.CreatePermission d))
permission_back d h =
    let p = and_parts (not d.replace && is_plain d.on && is_user_test d.condition) (is_enabled d.switch) h in
    let q = and_parts (not d.replace && is_plain d.on) (is_user_test d.condition) p.0 in
    let r = and_parts (not d.replace) (is_plain d.on) q.0 in
    let n = user_test_back d.condition q.1 in
    (permission d.name d.on.table n.0, tt, permission_same d.replace d.name d.on.table d.on.correlation d.condition d.switch n.0 (not-true d.replace r.0) (none_back d.on.correlation r.1) n.1 (enabled_back d.switch p.1))

out_Compare : (by : Comparison) (a b : Expr) → out-Cond (conds.Compare by a b) ≡ layers.Cond-F.Compare by a b
out_Compare by a b = ap out-Cond (sym (conds.rolls-Compare by a b)) ∙ out-roll-Cond (layers.Cond-F.Compare by a b)

user_test_from : (n : List ℕ) → is_user_test (is_user n) ≡ true
user_test_from n = simp (out_Compare, out_Atom)

permission_from : (p t n : List ℕ) → has_small_tree (statement_of (permission p t n)) ≡ true
permission_from p t n = rw (user_test_from n) refl

-- ---- ALTER TABLE

row_control_back : (o : ControlOf) → is_row_control o ≡ true → o ≡ controls.Row
row_control_back controls.Row h = refl
row_control_back controls.Column h = absurd cc

activate_same : (t : List ℕ) (a : Bool) (o : ControlOf) (second : Option Activation) → a ≡ true → o ≡ controls.Row → second ≡ None
    → stmts.Change (changes.Activate t (record { activate = a; of = o }) second) ≡ statement_of (activate t)
activate_same t a o second h i j = rw (h, i, j) refl

activate_back : (t : List ℕ) (a : Activation) (second : Option Activation) → (is_none second && activates_row_control a) ≡ true → IsSmall (stmts.Change (changes.Activate t a second))
activate_back t a second h =
    let p = and_parts (is_none second) (activates_row_control a) h in
    let q = and_parts a.activate (is_row_control a.of) p.1 in
    (activate t, tt, activate_same t a.activate a.of second q.0 (row_control_back a.of q.1) (none_back second p.0))

-- ---- the statements

change_back : (c : Change) → is_small_change c ≡ true → IsSmall (stmts.Change c)
change_back (changes.CreateTable t es policy) h = table_back t es policy h
change_back (changes.CreatePermission d) h = permission_back d h
change_back (changes.Activate t first second) h = activate_back t first second h
change_back _ h = absurd cc

form_of : (s : Stmt) → has_small_tree s ≡ true → IsSmall s
form_of (stmts.Select s) h = select_back s h
form_of (stmts.Insert i) h = insert_back i h
form_of (stmts.Change c) h = change_back c h
form_of _ h = absurd cc

tree_of : (f : Form) → IsForm f → has_small_tree (statement_of f) ≡ true
tree_of (table t cs) h = table_from cs h.0 h.1 h.2 h.3
tree_of (insert t rows) h = rows_from rows
tree_of (select t) h = select_from t
tree_of (permission p t n) h = permission_from p t n
tree_of (activate t) h = refl

pub small_exactly : (s : Stmt) → IsTrue (has_small_tree s) ↔ IsSmall s
small_exactly s = (form_of s, λ p. subst (λ (r : Stmt). has_small_tree r ≡ true) (sym p.2) (tree_of p.0 p.1))

pub form_where : (s : Stmt) (b : Bool) → b ≡ has_small_tree s → IsTrue b ↔ IsSmall s
form_where s b h = subst (λ (x : Bool). IsTrue x ↔ IsSmall s) (sym h) (small_exactly s)
