-- The columns that a qualified tree marks have correlation names. tools/names-inductions writes this file.
use Rattle.std.proofs.Common.{◌≡◌, refl, ap, sym, subst, ◌∙◌, List, [], ◌∷◌, ◌++◌, Bool, true, false, ◌&&◌, Option, Some, None, map}
use Rattle.std.specs.List.{list_all}
use Rattle.lb_tree.specs.declared.query.Cond.{Cond}
use Rattle.lb_tree.specs.declared.query.Expr.{Expr}
use Rattle.lb_tree.specs.declared.query.Item.{Item}
use Rattle.lb_tree.specs.declared.query.Join.{Join}
use Rattle.lb_tree.specs.declared.query.Arm.{Arm}
use Rattle.lb_tree.specs.declared.query.Chain.{Chain}
use Rattle.lb_tree.specs.declared.query.Choice.{Choice}
use Rattle.lb_tree.specs.declared.query.Query.{Query}
use Rattle.lb_tree.specs.declared.query.Signed.{Signed}
use Rattle.lb_tree.specs.declared.query.Atom.{Atom}
use Rattle.lb_tree.specs.declared.query.Atom.TheVariants as atoms
use Rattle.lb_tree.specs.declared.query.Column.{Column}
use Rattle.lb_tree.specs.declared.query.Tab.{Tab}
use Rattle.lb_tree.specs.declared.query.Cond.TheOpen as layers
use Rattle.lb_tree.specs.declared.query.Cond.TheViews.{roll-Cond, roll-Expr, roll-Item, roll-Join, roll-Arm, roll-Chain, roll-Choice, roll-Query, roll-Signed}
use Rattle.lb_tree.specs.declared.query.Cond.TheFolds.{map-Cond, map-Expr, map-Item, map-Join, map-Arm, map-Chain, map-Choice, map-Query, map-Signed, ind-Cond, ind-Expr}
use Rattle.lb_tree.specs.Folds.{Written, cond_of, expr_of, item_of, join_of, arm_of, chain_of, choice_of, query_of, signed_of}
use Rattle.lb_tree.proofs.Opens.{cond_roll, expr_roll, item_roll, join_roll, arm_roll, chain_roll, choice_roll, query_roll, signed_roll}
use Rattle.lb_names.specs.declared.place.Seen.{Seen}
use Rattle.lb_names.specs.Sights.{Name, correlation, calls_of, Sight, inside, inside_on}
use Rattle.lb_names.specs.Marks.{Mark, enter, item, column, star, call, Marks, Marked, JoinMarks, ChainMarks, marked, marking, mark_steps, of_each, tables_of, tables_of_chain, joins_marks, chains_marks, atom_marks}
use Rattle.lb_names.specs.Qualified.{has_correlation, is_qualified_atom, all_of_them, testing, qualified_steps}
use Rattle.lb_names.proofs.Mentioned.{m_cond, m_expr, m_item, m_join, m_arm, m_chain, m_choice, m_query, m_signed}

abbrev pub u_cond : Cond → Bool
u_cond = cond_of testing qualified_steps

abbrev pub u_expr : Expr → Bool
u_expr = expr_of testing qualified_steps

abbrev pub u_item : Item → Bool
u_item = item_of testing qualified_steps

abbrev pub u_join : Join → Bool
u_join = join_of testing qualified_steps

abbrev pub u_arm : Arm → Bool
u_arm = arm_of testing qualified_steps

abbrev pub u_chain : Chain → Bool
u_chain = chain_of testing qualified_steps

abbrev pub u_choice : Choice → Bool
u_choice = choice_of testing qualified_steps

abbrev pub u_query : Query → Bool
u_query = query_of testing qualified_steps

abbrev pub u_signed : Signed → Bool
u_signed = signed_of testing qualified_steps

-- a column that is marked has a correlation name
abbrev pub IsWritten : Mark → Type 0
IsWritten (enter items) = Unit {0}
IsWritten (item before around tab) = Unit {0}
IsWritten (column seen c) = has_correlation c ≡ true
IsWritten (star items x) = Unit {0}
IsWritten (call a) = Unit {0}

abbrev pub AllWritten : Marks → Type 0
AllWritten [] = Unit {0}
AllWritten (m ∷ ms) = IsWritten m × AllWritten ms

abbrev pub JoinWritten : JoinMarks → Type 0
JoinWritten j = (v : Sight) → AllWritten (j.on v)

abbrev pub JoinsWritten : List JoinMarks → Type 0
JoinsWritten [] = Unit {0}
JoinsWritten (j ∷ js) = JoinWritten j × JoinsWritten js

abbrev pub ChainWritten : ChainMarks → Type 0
ChainWritten ch = JoinsWritten ch.joins

abbrev pub ChainsWritten : List ChainMarks → Type 0
ChainsWritten [] = Unit {0}
ChainsWritten (ch ∷ chains) = ChainWritten ch × ChainsWritten chains

pub split : (a b : Bool) → (a && b) ≡ true → (a ≡ true) × (b ≡ true)
split true b h = (refl, h)
split false b h = absurd cc

both : (xs ys : Marks) → AllWritten xs → AllWritten ys → AllWritten (xs ++ ys)
both [] ys h k = k
both (x ∷ xs) ys h k = (h.0, both xs ys h.1 k)

joins_marked : (js : List JoinMarks) → JoinsWritten js → (v : Sight) (all before : List Name) (tabs : List Tab) → AllWritten (joins_marks v all before tabs js)
joins_marked [] h v all before tabs = tt
joins_marked (j ∷ js) h v all before tabs = (tt, both (j.on (inside_on v all (tabs ++ j.tab ∷ []))) (joins_marks v all (before ++ correlation j.tab ∷ []) (tabs ++ j.tab ∷ []) js) (h.0 (inside_on v all (tabs ++ j.tab ∷ []))) (joins_marked js h.1 v all (before ++ correlation j.tab ∷ []) (tabs ++ j.tab ∷ [])))

chains_marked : (chains : List ChainMarks) → ChainsWritten chains → (v : Sight) (all before : List Name) → AllWritten (chains_marks v all before chains)
chains_marked [] h v all before = tt
chains_marked (ch ∷ chains) h v all before = (tt, both (joins_marks v all (before ++ correlation ch.first ∷ []) (ch.first ∷ []) ch.joins) (chains_marks v all (before ++ calls_of (tables_of_chain ch)) chains) (joins_marked ch.joins h.0 v all (before ++ correlation ch.first ∷ []) (ch.first ∷ [])) (chains_marked chains h.1 v all (before ++ calls_of (tables_of_chain ch))))

columns_written : (seen : List Seen) (cs : List Column) → list_all has_correlation cs ≡ true → AllWritten (map (column seen) cs)
columns_written seen [] h = tt
columns_written seen (c ∷ cs) h = let k : (has_correlation c ≡ true) × (list_all has_correlation cs ≡ true) = split (has_correlation c) (list_all has_correlation cs) h in (k.0, columns_written seen cs k.1)

each : {X : Type 0} (F : X → Marked) (test : X → Bool) (xs : List ((x : X) × (test x ≡ true → (v : Sight) → AllWritten ((F x).marks v)))) → all_of_them (map test (map (λ z. z.0) xs)) ≡ true → (v : Sight) → AllWritten (of_each (λ m. m.marks) (map F (map (λ z. z.0) xs)) v)
each F test [] h v = tt
each F test (x ∷ xs) h v =
    let k : (test x.0 ≡ true) × (all_of_them (map test (map (λ z. z.0) xs)) ≡ true) = split (test x.0) (all_of_them (map test (map (λ z. z.0) xs))) h in
    both ((F x.0).marks v) (of_each (λ m. m.marks) (map F (map (λ z. z.0) xs)) v) (x.1 k.0 v) (each F test xs k.1 v)

atom_written : (a : Atom) (v : Sight) → is_qualified_atom a ≡ true → AllWritten (atom_marks a v)
atom_written atoms.Null v h = tt
atom_written (atoms.Int p) v h = tt
atom_written (atoms.Text p) v h = tt
atom_written (atoms.Date p) v h = tt
atom_written atoms.CurrentDate v h = tt
atom_written atoms.SessionUser v h = tt
atom_written (atoms.Column p) v h = (h, tt)
atom_written atoms.CountRows v h = tt
atom_written (atoms.VerifyRole p) v h = tt
atom_written (atoms.VerifyGroup p) v h = tt
atom_written (atoms.SecLabel p q) v h = (tt, tt)
atom_written (atoms.SecLabelByName p q) v h = (tt, tt)
atom_written (atoms.SecLabelToChar p q) v h = (tt, (h, tt))

abbrev GoodCond : Cond → Type 0
GoodCond x = u_cond x ≡ true → (v : Sight) → AllWritten ((m_cond x).marks v)

abbrev WithCond : Type 0
WithCond = (x : Cond) × GoodCond x

abbrev GoodExpr : Expr → Type 0
GoodExpr x = u_expr x ≡ true → (v : Sight) → AllWritten ((m_expr x).marks v)

abbrev WithExpr : Type 0
WithExpr = (x : Expr) × GoodExpr x

abbrev GoodItem : Item → Type 0
GoodItem x = u_item x ≡ true → (v : Sight) → AllWritten ((m_item x).marks v)

abbrev WithItem : Type 0
WithItem = (x : Item) × GoodItem x

abbrev GoodJoin : Join → Type 0
GoodJoin x = u_join x ≡ true → JoinWritten (m_join x)

abbrev WithJoin : Type 0
WithJoin = (x : Join) × GoodJoin x

abbrev GoodArm : Arm → Type 0
GoodArm x = u_arm x ≡ true → (v : Sight) → AllWritten ((m_arm x).marks v)

abbrev WithArm : Type 0
WithArm = (x : Arm) × GoodArm x

abbrev GoodChain : Chain → Type 0
GoodChain x = u_chain x ≡ true → ChainWritten (m_chain x)

abbrev WithChain : Type 0
WithChain = (x : Chain) × GoodChain x

abbrev GoodChoice : Choice → Type 0
GoodChoice x = u_choice x ≡ true → (v : Sight) → AllWritten ((m_choice x).marks v)

abbrev WithChoice : Type 0
WithChoice = (x : Choice) × GoodChoice x

abbrev GoodQuery : Query → Type 0
GoodQuery x = u_query x ≡ true → (v : Sight) → AllWritten ((m_query x).marks v)

abbrev WithQuery : Type 0
WithQuery = (x : Query) × GoodQuery x

abbrev GoodSigned : Signed → Type 0
GoodSigned x = u_signed x ≡ true → (v : Sight) → AllWritten ((m_signed x).marks v)

abbrev WithSigned : Type 0
WithSigned = (x : Signed) × GoodSigned x

-- a layer whose parts have their facts
abbrev Goods : (Type 0 → Type 0 → Type 0 → Type 0 → Type 0 → Type 0 → Type 0 → Type 0 → Type 0 → Type 0) → Type 0
Goods F = F WithCond WithExpr WithItem WithJoin WithArm WithChain WithChoice WithQuery WithSigned

abbrev down_cond : Goods layers.Cond-F → Written layers.Cond-F
down_cond = map-Cond WithCond WithExpr WithItem WithJoin WithArm WithChain WithChoice WithQuery WithSigned Cond Expr Item Join Arm Chain Choice Query Signed (λ z. z.0) (λ z. z.0) (λ z. z.0) (λ z. z.0) (λ z. z.0) (λ z. z.0) (λ z. z.0) (λ z. z.0) (λ z. z.0)

abbrev down_expr : Goods layers.Expr-F → Written layers.Expr-F
down_expr = map-Expr WithCond WithExpr WithItem WithJoin WithArm WithChain WithChoice WithQuery WithSigned Cond Expr Item Join Arm Chain Choice Query Signed (λ z. z.0) (λ z. z.0) (λ z. z.0) (λ z. z.0) (λ z. z.0) (λ z. z.0) (λ z. z.0) (λ z. z.0) (λ z. z.0)

abbrev down_item : Goods layers.Item-F → Written layers.Item-F
down_item = map-Item WithCond WithExpr WithItem WithJoin WithArm WithChain WithChoice WithQuery WithSigned Cond Expr Item Join Arm Chain Choice Query Signed (λ z. z.0) (λ z. z.0) (λ z. z.0) (λ z. z.0) (λ z. z.0) (λ z. z.0) (λ z. z.0) (λ z. z.0) (λ z. z.0)

abbrev down_join : Goods layers.Join-F → Written layers.Join-F
down_join = map-Join WithCond WithExpr WithItem WithJoin WithArm WithChain WithChoice WithQuery WithSigned Cond Expr Item Join Arm Chain Choice Query Signed (λ z. z.0) (λ z. z.0) (λ z. z.0) (λ z. z.0) (λ z. z.0) (λ z. z.0) (λ z. z.0) (λ z. z.0) (λ z. z.0)

abbrev down_arm : Goods layers.Arm-F → Written layers.Arm-F
down_arm = map-Arm WithCond WithExpr WithItem WithJoin WithArm WithChain WithChoice WithQuery WithSigned Cond Expr Item Join Arm Chain Choice Query Signed (λ z. z.0) (λ z. z.0) (λ z. z.0) (λ z. z.0) (λ z. z.0) (λ z. z.0) (λ z. z.0) (λ z. z.0) (λ z. z.0)

abbrev down_chain : Goods layers.Chain-F → Written layers.Chain-F
down_chain = map-Chain WithCond WithExpr WithItem WithJoin WithArm WithChain WithChoice WithQuery WithSigned Cond Expr Item Join Arm Chain Choice Query Signed (λ z. z.0) (λ z. z.0) (λ z. z.0) (λ z. z.0) (λ z. z.0) (λ z. z.0) (λ z. z.0) (λ z. z.0) (λ z. z.0)

abbrev down_choice : Goods layers.Choice-F → Written layers.Choice-F
down_choice = map-Choice WithCond WithExpr WithItem WithJoin WithArm WithChain WithChoice WithQuery WithSigned Cond Expr Item Join Arm Chain Choice Query Signed (λ z. z.0) (λ z. z.0) (λ z. z.0) (λ z. z.0) (λ z. z.0) (λ z. z.0) (λ z. z.0) (λ z. z.0) (λ z. z.0)

abbrev down_query : Goods layers.Query-F → Written layers.Query-F
down_query = map-Query WithCond WithExpr WithItem WithJoin WithArm WithChain WithChoice WithQuery WithSigned Cond Expr Item Join Arm Chain Choice Query Signed (λ z. z.0) (λ z. z.0) (λ z. z.0) (λ z. z.0) (λ z. z.0) (λ z. z.0) (λ z. z.0) (λ z. z.0) (λ z. z.0)

abbrev down_signed : Goods layers.Signed-F → Written layers.Signed-F
down_signed = map-Signed WithCond WithExpr WithItem WithJoin WithArm WithChain WithChoice WithQuery WithSigned Cond Expr Item Join Arm Chain Choice Query Signed (λ z. z.0) (λ z. z.0) (λ z. z.0) (λ z. z.0) (λ z. z.0) (λ z. z.0) (λ z. z.0) (λ z. z.0) (λ z. z.0)

joins_written : (js : List WithJoin) → all_of_them (map u_join (map (λ z. z.0) js)) ≡ true → JoinsWritten (map marking.join (map m_join (map (λ z. z.0) js)))
joins_written [] h = tt
joins_written (j ∷ js) h = let k : (u_join j.0 ≡ true) × (all_of_them (map u_join (map (λ z. z.0) js)) ≡ true) = split (u_join j.0) (all_of_them (map u_join (map (λ z. z.0) js))) h in (j.1 k.0, joins_written js k.1)

chains_written : (cs : List WithChain) → all_of_them (map u_chain (map (λ z. z.0) cs)) ≡ true → ChainsWritten (map marking.chain (map m_chain (map (λ z. z.0) cs)))
chains_written [] h = tt
chains_written (c ∷ cs) h = let k : (u_chain c.0 ≡ true) × (all_of_them (map u_chain (map (λ z. z.0) cs)) ≡ true) = split (u_chain c.0) (all_of_them (map u_chain (map (λ z. z.0) cs))) h in (c.1 k.0, chains_written cs k.1)

cond_good : (y : Goods layers.Cond-F) → GoodCond (roll-Cond (down_cond y))
cond_good (layers.Cond-F.Or a) = λ h v. let k : (all_of_them (map u_cond (map (λ z. z.0) a))) ≡ true = sym (cond_roll testing qualified_steps (layers.Cond-F.Or (map (λ z. z.0) a))) ∙ h in subst AllWritten (ap (λ m. m.marks v) (sym (cond_roll marked mark_steps (layers.Cond-F.Or (map (λ z. z.0) a))))) (each m_cond u_cond a k v)
cond_good (layers.Cond-F.And a) = λ h v. let k : (all_of_them (map u_cond (map (λ z. z.0) a))) ≡ true = sym (cond_roll testing qualified_steps (layers.Cond-F.And (map (λ z. z.0) a))) ∙ h in subst AllWritten (ap (λ m. m.marks v) (sym (cond_roll marked mark_steps (layers.Cond-F.And (map (λ z. z.0) a))))) (each m_cond u_cond a k v)
cond_good (layers.Cond-F.Not a) = λ h v. let k : (u_cond a.0) ≡ true = sym (cond_roll testing qualified_steps (layers.Cond-F.Not a.0)) ∙ h in subst AllWritten (ap (λ m. m.marks v) (sym (cond_roll marked mark_steps (layers.Cond-F.Not a.0)))) (a.1 k v)
cond_good (layers.Cond-F.Exists a) = λ h v. let k : (u_query a.0) ≡ true = sym (cond_roll testing qualified_steps (layers.Cond-F.Exists a.0)) ∙ h in subst AllWritten (ap (λ m. m.marks v) (sym (cond_roll marked mark_steps (layers.Cond-F.Exists a.0)))) (a.1 k v)
cond_good (layers.Cond-F.Compare a b c) = λ h v. let k : (u_expr b.0 && (u_expr c.0)) ≡ true = sym (cond_roll testing qualified_steps (layers.Cond-F.Compare a b.0 c.0)) ∙ h in subst AllWritten (ap (λ m. m.marks v) (sym (cond_roll marked mark_steps (layers.Cond-F.Compare a b.0 c.0)))) (both ((m_expr b.0).marks v) ((m_expr c.0).marks v) (b.1 (split (u_expr b.0) (u_expr c.0) k).0 v) (c.1 (split (u_expr b.0) (u_expr c.0) k).1 v))
cond_good (layers.Cond-F.CompareQuery a b c) = λ h v. let k : (u_expr b.0 && (u_query c.0)) ≡ true = sym (cond_roll testing qualified_steps (layers.Cond-F.CompareQuery a b.0 c.0)) ∙ h in subst AllWritten (ap (λ m. m.marks v) (sym (cond_roll marked mark_steps (layers.Cond-F.CompareQuery a b.0 c.0)))) (both ((m_expr b.0).marks v) ((m_query c.0).marks v) (b.1 (split (u_expr b.0) (u_query c.0) k).0 v) (c.1 (split (u_expr b.0) (u_query c.0) k).1 v))
cond_good (layers.Cond-F.IsNull a) = λ h v. let k : (u_expr a.0) ≡ true = sym (cond_roll testing qualified_steps (layers.Cond-F.IsNull a.0)) ∙ h in subst AllWritten (ap (λ m. m.marks v) (sym (cond_roll marked mark_steps (layers.Cond-F.IsNull a.0)))) (a.1 k v)
cond_good (layers.Cond-F.InQuery a b) = λ h v. let k : (u_expr a.0 && (u_query b.0)) ≡ true = sym (cond_roll testing qualified_steps (layers.Cond-F.InQuery a.0 b.0)) ∙ h in subst AllWritten (ap (λ m. m.marks v) (sym (cond_roll marked mark_steps (layers.Cond-F.InQuery a.0 b.0)))) (both ((m_expr a.0).marks v) ((m_query b.0).marks v) (a.1 (split (u_expr a.0) (u_query b.0) k).0 v) (b.1 (split (u_expr a.0) (u_query b.0) k).1 v))
cond_good (layers.Cond-F.InList a b) = λ h v. let k : (u_expr a.0 && (all_of_them (map u_expr (map (λ z. z.0) b)))) ≡ true = sym (cond_roll testing qualified_steps (layers.Cond-F.InList a.0 (map (λ z. z.0) b))) ∙ h in subst AllWritten (ap (λ m. m.marks v) (sym (cond_roll marked mark_steps (layers.Cond-F.InList a.0 (map (λ z. z.0) b))))) (both ((m_expr a.0).marks v) (of_each marking.expr (map m_expr (map (λ z. z.0) b)) v) (a.1 (split (u_expr a.0) (all_of_them (map u_expr (map (λ z. z.0) b))) k).0 v) (each m_expr u_expr b (split (u_expr a.0) (all_of_them (map u_expr (map (λ z. z.0) b))) k).1 v))
cond_good (layers.Cond-F.Between a b c) = λ h v. let k : (u_expr a.0 && (u_expr b.0 && (u_expr c.0))) ≡ true = sym (cond_roll testing qualified_steps (layers.Cond-F.Between a.0 b.0 c.0)) ∙ h in subst AllWritten (ap (λ m. m.marks v) (sym (cond_roll marked mark_steps (layers.Cond-F.Between a.0 b.0 c.0)))) (both ((m_expr a.0).marks v) ((m_expr b.0).marks v ++ ((m_expr c.0).marks v)) (a.1 (split (u_expr a.0) (u_expr b.0 && (u_expr c.0)) k).0 v) (both ((m_expr b.0).marks v) ((m_expr c.0).marks v) (b.1 (split (u_expr b.0) (u_expr c.0) (split (u_expr a.0) (u_expr b.0 && (u_expr c.0)) k).1).0 v) (c.1 (split (u_expr b.0) (u_expr c.0) (split (u_expr a.0) (u_expr b.0 && (u_expr c.0)) k).1).1 v)))

expr_good : (y : Goods layers.Expr-F) → GoodExpr (roll-Expr (down_expr y))
expr_good (layers.Expr-F.Atom a) = λ h v. let k : (is_qualified_atom a) ≡ true = sym (expr_roll testing qualified_steps (layers.Expr-F.Atom a)) ∙ h in subst AllWritten (ap (λ m. m.marks v) (sym (expr_roll marked mark_steps (layers.Expr-F.Atom a)))) (atom_written a v k)
expr_good (layers.Expr-F.Sum a) = λ h v. let k : (all_of_them (map u_signed (map (λ z. z.0) a))) ≡ true = sym (expr_roll testing qualified_steps (layers.Expr-F.Sum (map (λ z. z.0) a))) ∙ h in subst AllWritten (ap (λ m. m.marks v) (sym (expr_roll marked mark_steps (layers.Expr-F.Sum (map (λ z. z.0) a))))) (each m_signed u_signed a k v)
expr_good (layers.Expr-F.Concat a) = λ h v. let k : (all_of_them (map u_expr (map (λ z. z.0) a))) ≡ true = sym (expr_roll testing qualified_steps (layers.Expr-F.Concat (map (λ z. z.0) a))) ∙ h in subst AllWritten (ap (λ m. m.marks v) (sym (expr_roll marked mark_steps (layers.Expr-F.Concat (map (λ z. z.0) a))))) (each m_expr u_expr a k v)
expr_good (layers.Expr-F.Product a) = λ h v. let k : (all_of_them (map u_expr (map (λ z. z.0) a))) ≡ true = sym (expr_roll testing qualified_steps (layers.Expr-F.Product (map (λ z. z.0) a))) ∙ h in subst AllWritten (ap (λ m. m.marks v) (sym (expr_roll marked mark_steps (layers.Expr-F.Product (map (λ z. z.0) a))))) (each m_expr u_expr a k v)
expr_good (layers.Expr-F.Case a None) = λ h v. let k : (all_of_them (map u_arm (map (λ z. z.0) a)) && (true)) ≡ true = sym (expr_roll testing qualified_steps (layers.Expr-F.Case (map (λ z. z.0) a) None)) ∙ h in subst AllWritten (ap (λ m. m.marks v) (sym (expr_roll marked mark_steps (layers.Expr-F.Case (map (λ z. z.0) a) None)))) (both (of_each marking.arm (map m_arm (map (λ z. z.0) a)) v) ([]) (each m_arm u_arm a (split (all_of_them (map u_arm (map (λ z. z.0) a))) (true) k).0 v) (tt))
expr_good (layers.Expr-F.Case a (Some b)) = λ h v. let k : (all_of_them (map u_arm (map (λ z. z.0) a)) && (u_expr b.0)) ≡ true = sym (expr_roll testing qualified_steps (layers.Expr-F.Case (map (λ z. z.0) a) (Some b.0))) ∙ h in subst AllWritten (ap (λ m. m.marks v) (sym (expr_roll marked mark_steps (layers.Expr-F.Case (map (λ z. z.0) a) (Some b.0))))) (both (of_each marking.arm (map m_arm (map (λ z. z.0) a)) v) ((m_expr b.0).marks v) (each m_arm u_arm a (split (all_of_them (map u_arm (map (λ z. z.0) a))) (u_expr b.0) k).0 v) (b.1 (split (all_of_them (map u_arm (map (λ z. z.0) a))) (u_expr b.0) k).1 v))
expr_good (layers.Expr-F.Match a b None) = λ h v. let k : (u_expr a.0 && (all_of_them (map u_choice (map (λ z. z.0) b)) && (true))) ≡ true = sym (expr_roll testing qualified_steps (layers.Expr-F.Match a.0 (map (λ z. z.0) b) None)) ∙ h in subst AllWritten (ap (λ m. m.marks v) (sym (expr_roll marked mark_steps (layers.Expr-F.Match a.0 (map (λ z. z.0) b) None)))) (both ((m_expr a.0).marks v) (of_each marking.choice (map m_choice (map (λ z. z.0) b)) v ++ ([])) (a.1 (split (u_expr a.0) (all_of_them (map u_choice (map (λ z. z.0) b)) && (true)) k).0 v) (both (of_each marking.choice (map m_choice (map (λ z. z.0) b)) v) ([]) (each m_choice u_choice b (split (all_of_them (map u_choice (map (λ z. z.0) b))) (true) (split (u_expr a.0) (all_of_them (map u_choice (map (λ z. z.0) b)) && (true)) k).1).0 v) (tt)))
expr_good (layers.Expr-F.Match a b (Some c)) = λ h v. let k : (u_expr a.0 && (all_of_them (map u_choice (map (λ z. z.0) b)) && (u_expr c.0))) ≡ true = sym (expr_roll testing qualified_steps (layers.Expr-F.Match a.0 (map (λ z. z.0) b) (Some c.0))) ∙ h in subst AllWritten (ap (λ m. m.marks v) (sym (expr_roll marked mark_steps (layers.Expr-F.Match a.0 (map (λ z. z.0) b) (Some c.0))))) (both ((m_expr a.0).marks v) (of_each marking.choice (map m_choice (map (λ z. z.0) b)) v ++ ((m_expr c.0).marks v)) (a.1 (split (u_expr a.0) (all_of_them (map u_choice (map (λ z. z.0) b)) && (u_expr c.0)) k).0 v) (both (of_each marking.choice (map m_choice (map (λ z. z.0) b)) v) ((m_expr c.0).marks v) (each m_choice u_choice b (split (all_of_them (map u_choice (map (λ z. z.0) b))) (u_expr c.0) (split (u_expr a.0) (all_of_them (map u_choice (map (λ z. z.0) b)) && (u_expr c.0)) k).1).0 v) (c.1 (split (all_of_them (map u_choice (map (λ z. z.0) b))) (u_expr c.0) (split (u_expr a.0) (all_of_them (map u_choice (map (λ z. z.0) b)) && (u_expr c.0)) k).1).1 v)))
expr_good (layers.Expr-F.Aggregate a b) = λ h v. let k : (u_expr b.0) ≡ true = sym (expr_roll testing qualified_steps (layers.Expr-F.Aggregate a b.0)) ∙ h in subst AllWritten (ap (λ m. m.marks v) (sym (expr_roll marked mark_steps (layers.Expr-F.Aggregate a b.0)))) (b.1 k v)
expr_good (layers.Expr-F.Substr a b None) = λ h v. let k : (u_expr a.0 && (u_expr b.0 && (true))) ≡ true = sym (expr_roll testing qualified_steps (layers.Expr-F.Substr a.0 b.0 None)) ∙ h in subst AllWritten (ap (λ m. m.marks v) (sym (expr_roll marked mark_steps (layers.Expr-F.Substr a.0 b.0 None)))) (both ((m_expr a.0).marks v) ((m_expr b.0).marks v ++ ([])) (a.1 (split (u_expr a.0) (u_expr b.0 && (true)) k).0 v) (both ((m_expr b.0).marks v) ([]) (b.1 (split (u_expr b.0) (true) (split (u_expr a.0) (u_expr b.0 && (true)) k).1).0 v) (tt)))
expr_good (layers.Expr-F.Substr a b (Some c)) = λ h v. let k : (u_expr a.0 && (u_expr b.0 && (u_expr c.0))) ≡ true = sym (expr_roll testing qualified_steps (layers.Expr-F.Substr a.0 b.0 (Some c.0))) ∙ h in subst AllWritten (ap (λ m. m.marks v) (sym (expr_roll marked mark_steps (layers.Expr-F.Substr a.0 b.0 (Some c.0))))) (both ((m_expr a.0).marks v) ((m_expr b.0).marks v ++ ((m_expr c.0).marks v)) (a.1 (split (u_expr a.0) (u_expr b.0 && (u_expr c.0)) k).0 v) (both ((m_expr b.0).marks v) ((m_expr c.0).marks v) (b.1 (split (u_expr b.0) (u_expr c.0) (split (u_expr a.0) (u_expr b.0 && (u_expr c.0)) k).1).0 v) (c.1 (split (u_expr b.0) (u_expr c.0) (split (u_expr a.0) (u_expr b.0 && (u_expr c.0)) k).1).1 v)))
expr_good (layers.Expr-F.Apply a b) = λ h v. let k : (u_expr b.0) ≡ true = sym (expr_roll testing qualified_steps (layers.Expr-F.Apply a b.0)) ∙ h in subst AllWritten (ap (λ m. m.marks v) (sym (expr_roll marked mark_steps (layers.Expr-F.Apply a b.0)))) (b.1 k v)
expr_good (layers.Expr-F.Coalesce a) = λ h v. let k : (all_of_them (map u_expr (map (λ z. z.0) a))) ≡ true = sym (expr_roll testing qualified_steps (layers.Expr-F.Coalesce (map (λ z. z.0) a))) ∙ h in subst AllWritten (ap (λ m. m.marks v) (sym (expr_roll marked mark_steps (layers.Expr-F.Coalesce (map (λ z. z.0) a))))) (each m_expr u_expr a k v)

item_good : (y : Goods layers.Item-F) → GoodItem (roll-Item (down_item y))
item_good layers.Item-F.Everything = λ h v. let k : (true) ≡ true = sym (item_roll testing qualified_steps layers.Item-F.Everything) ∙ h in subst AllWritten (ap (λ m. m.marks v) (sym (item_roll marked mark_steps layers.Item-F.Everything))) ((tt, tt))
item_good (layers.Item-F.AllOf a) = λ h v. let k : (true) ≡ true = sym (item_roll testing qualified_steps (layers.Item-F.AllOf a)) ∙ h in subst AllWritten (ap (λ m. m.marks v) (sym (item_roll marked mark_steps (layers.Item-F.AllOf a)))) ((tt, tt))
item_good (layers.Item-F.Value a b) = λ h v. let k : (u_expr a.0) ≡ true = sym (item_roll testing qualified_steps (layers.Item-F.Value a.0 b)) ∙ h in subst AllWritten (ap (λ m. m.marks v) (sym (item_roll marked mark_steps (layers.Item-F.Value a.0 b)))) (a.1 k v)

join_good : (y : Goods layers.Join-F) → GoodJoin (roll-Join (down_join y))
join_good (layers.Join-F.Inner a b) = λ h. let k : u_cond b.0 ≡ true = sym (join_roll testing qualified_steps (layers.Join-F.Inner a b.0)) ∙ h in subst JoinWritten (sym (join_roll marked mark_steps (layers.Join-F.Inner a b.0))) (λ v. b.1 k v)
join_good (layers.Join-F.Left a b) = λ h. let k : u_cond b.0 ≡ true = sym (join_roll testing qualified_steps (layers.Join-F.Left a b.0)) ∙ h in subst JoinWritten (sym (join_roll marked mark_steps (layers.Join-F.Left a b.0))) (λ v. b.1 k v)
join_good (layers.Join-F.Cross a) = λ h. let k : true ≡ true = sym (join_roll testing qualified_steps (layers.Join-F.Cross a)) ∙ h in subst JoinWritten (sym (join_roll marked mark_steps (layers.Join-F.Cross a))) (λ v. tt)

arm_good : (y : Goods layers.Arm-F) → GoodArm (roll-Arm (down_arm y))
arm_good y = λ h v. let k : (u_cond y.when.0 && (u_expr y.result.0)) ≡ true = sym (arm_roll testing qualified_steps (record { when = y.when.0; result = y.result.0 })) ∙ h in subst AllWritten (ap (λ m. m.marks v) (sym (arm_roll marked mark_steps (record { when = y.when.0; result = y.result.0 })))) (both ((m_cond y.when.0).marks v) ((m_expr y.result.0).marks v) (y.when.1 (split (u_cond y.when.0) (u_expr y.result.0) k).0 v) (y.result.1 (split (u_cond y.when.0) (u_expr y.result.0) k).1 v))

chain_good : (y : Goods layers.Chain-F) → GoodChain (roll-Chain (down_chain y))
chain_good y = λ h. let k : all_of_them (map u_join (map (λ z. z.0) y.joins)) ≡ true = sym (chain_roll testing qualified_steps (record { first = y.first; joins = (map (λ z. z.0) y.joins) })) ∙ h in subst ChainWritten (sym (chain_roll marked mark_steps (record { first = y.first; joins = (map (λ z. z.0) y.joins) }))) (joins_written y.joins k)

choice_good : (y : Goods layers.Choice-F) → GoodChoice (roll-Choice (down_choice y))
choice_good y = λ h v. let k : (u_expr y.when.0 && (u_expr y.result.0)) ≡ true = sym (choice_roll testing qualified_steps (record { when = y.when.0; result = y.result.0 })) ∙ h in subst AllWritten (ap (λ m. m.marks v) (sym (choice_roll marked mark_steps (record { when = y.when.0; result = y.result.0 })))) (both ((m_expr y.when.0).marks v) ((m_expr y.result.0).marks v) (y.when.1 (split (u_expr y.when.0) (u_expr y.result.0) k).0 v) (y.result.1 (split (u_expr y.when.0) (u_expr y.result.0) k).1 v))

query_good : (distinct : Bool) (items : List WithItem) (from : List WithChain) (filter : Option WithCond) (group : List Column) (having : Option WithCond)
    → GoodQuery (roll-Query (down_query (record { distinct = distinct; items = items; from = from; filter = filter; group = group; having = having })))
query_good distinct items from None group None = λ h v. let k : (all_of_them (map u_item (map (λ z. z.0) items)) && (all_of_them (map u_chain (map (λ z. z.0) from)) && (true && (list_all has_correlation group && (true))))) ≡ true = sym (query_roll testing qualified_steps (record { distinct = distinct; items = (map (λ z. z.0) items); from = (map (λ z. z.0) from); filter = None; group = group; having = None })) ∙ h in subst AllWritten (ap (λ m. m.marks v) (sym (query_roll marked mark_steps (record { distinct = distinct; items = (map (λ z. z.0) items); from = (map (λ z. z.0) from); filter = None; group = group; having = None })))) ((tt, both (of_each marking.item (map m_item (map (λ z. z.0) items)) (inside v (tables_of (map marking.chain (map m_chain (map (λ z. z.0) from)))))) (chains_marks v (calls_of (tables_of (map marking.chain (map m_chain (map (λ z. z.0) from))))) [] (map marking.chain (map m_chain (map (λ z. z.0) from))) ++ ([] ++ (map (column (inside v (tables_of (map marking.chain (map m_chain (map (λ z. z.0) from))))).seen) group ++ ([])))) (each m_item u_item items (split (all_of_them (map u_item (map (λ z. z.0) items))) (all_of_them (map u_chain (map (λ z. z.0) from)) && (true && (list_all has_correlation group && (true)))) k).0 (inside v (tables_of (map marking.chain (map m_chain (map (λ z. z.0) from)))))) (both (chains_marks v (calls_of (tables_of (map marking.chain (map m_chain (map (λ z. z.0) from))))) [] (map marking.chain (map m_chain (map (λ z. z.0) from)))) ([] ++ (map (column (inside v (tables_of (map marking.chain (map m_chain (map (λ z. z.0) from))))).seen) group ++ ([]))) (chains_marked (map marking.chain (map m_chain (map (λ z. z.0) from))) (chains_written from (split (all_of_them (map u_chain (map (λ z. z.0) from))) (true && (list_all has_correlation group && (true))) (split (all_of_them (map u_item (map (λ z. z.0) items))) (all_of_them (map u_chain (map (λ z. z.0) from)) && (true && (list_all has_correlation group && (true)))) k).1).0) v (calls_of (tables_of (map marking.chain (map m_chain (map (λ z. z.0) from))))) []) (both ([]) (map (column (inside v (tables_of (map marking.chain (map m_chain (map (λ z. z.0) from))))).seen) group ++ ([])) (tt) (both (map (column (inside v (tables_of (map marking.chain (map m_chain (map (λ z. z.0) from))))).seen) group) ([]) (columns_written (inside v (tables_of (map marking.chain (map m_chain (map (λ z. z.0) from))))).seen group (split (list_all has_correlation group) (true) (split (true) (list_all has_correlation group && (true)) (split (all_of_them (map u_chain (map (λ z. z.0) from))) (true && (list_all has_correlation group && (true))) (split (all_of_them (map u_item (map (λ z. z.0) items))) (all_of_them (map u_chain (map (λ z. z.0) from)) && (true && (list_all has_correlation group && (true)))) k).1).1).1).0) (tt))))))
query_good distinct items from None group (Some having) = λ h v. let k : (all_of_them (map u_item (map (λ z. z.0) items)) && (all_of_them (map u_chain (map (λ z. z.0) from)) && (true && (list_all has_correlation group && (u_cond having.0))))) ≡ true = sym (query_roll testing qualified_steps (record { distinct = distinct; items = (map (λ z. z.0) items); from = (map (λ z. z.0) from); filter = None; group = group; having = (Some having.0) })) ∙ h in subst AllWritten (ap (λ m. m.marks v) (sym (query_roll marked mark_steps (record { distinct = distinct; items = (map (λ z. z.0) items); from = (map (λ z. z.0) from); filter = None; group = group; having = (Some having.0) })))) ((tt, both (of_each marking.item (map m_item (map (λ z. z.0) items)) (inside v (tables_of (map marking.chain (map m_chain (map (λ z. z.0) from)))))) (chains_marks v (calls_of (tables_of (map marking.chain (map m_chain (map (λ z. z.0) from))))) [] (map marking.chain (map m_chain (map (λ z. z.0) from))) ++ ([] ++ (map (column (inside v (tables_of (map marking.chain (map m_chain (map (λ z. z.0) from))))).seen) group ++ ((m_cond having.0).marks (inside v (tables_of (map marking.chain (map m_chain (map (λ z. z.0) from))))))))) (each m_item u_item items (split (all_of_them (map u_item (map (λ z. z.0) items))) (all_of_them (map u_chain (map (λ z. z.0) from)) && (true && (list_all has_correlation group && (u_cond having.0)))) k).0 (inside v (tables_of (map marking.chain (map m_chain (map (λ z. z.0) from)))))) (both (chains_marks v (calls_of (tables_of (map marking.chain (map m_chain (map (λ z. z.0) from))))) [] (map marking.chain (map m_chain (map (λ z. z.0) from)))) ([] ++ (map (column (inside v (tables_of (map marking.chain (map m_chain (map (λ z. z.0) from))))).seen) group ++ ((m_cond having.0).marks (inside v (tables_of (map marking.chain (map m_chain (map (λ z. z.0) from)))))))) (chains_marked (map marking.chain (map m_chain (map (λ z. z.0) from))) (chains_written from (split (all_of_them (map u_chain (map (λ z. z.0) from))) (true && (list_all has_correlation group && (u_cond having.0))) (split (all_of_them (map u_item (map (λ z. z.0) items))) (all_of_them (map u_chain (map (λ z. z.0) from)) && (true && (list_all has_correlation group && (u_cond having.0)))) k).1).0) v (calls_of (tables_of (map marking.chain (map m_chain (map (λ z. z.0) from))))) []) (both ([]) (map (column (inside v (tables_of (map marking.chain (map m_chain (map (λ z. z.0) from))))).seen) group ++ ((m_cond having.0).marks (inside v (tables_of (map marking.chain (map m_chain (map (λ z. z.0) from))))))) (tt) (both (map (column (inside v (tables_of (map marking.chain (map m_chain (map (λ z. z.0) from))))).seen) group) ((m_cond having.0).marks (inside v (tables_of (map marking.chain (map m_chain (map (λ z. z.0) from)))))) (columns_written (inside v (tables_of (map marking.chain (map m_chain (map (λ z. z.0) from))))).seen group (split (list_all has_correlation group) (u_cond having.0) (split (true) (list_all has_correlation group && (u_cond having.0)) (split (all_of_them (map u_chain (map (λ z. z.0) from))) (true && (list_all has_correlation group && (u_cond having.0))) (split (all_of_them (map u_item (map (λ z. z.0) items))) (all_of_them (map u_chain (map (λ z. z.0) from)) && (true && (list_all has_correlation group && (u_cond having.0)))) k).1).1).1).0) (having.1 (split (list_all has_correlation group) (u_cond having.0) (split (true) (list_all has_correlation group && (u_cond having.0)) (split (all_of_them (map u_chain (map (λ z. z.0) from))) (true && (list_all has_correlation group && (u_cond having.0))) (split (all_of_them (map u_item (map (λ z. z.0) items))) (all_of_them (map u_chain (map (λ z. z.0) from)) && (true && (list_all has_correlation group && (u_cond having.0)))) k).1).1).1).1 (inside v (tables_of (map marking.chain (map m_chain (map (λ z. z.0) from)))))))))))
query_good distinct items from (Some filter) group None = λ h v. let k : (all_of_them (map u_item (map (λ z. z.0) items)) && (all_of_them (map u_chain (map (λ z. z.0) from)) && (u_cond filter.0 && (list_all has_correlation group && (true))))) ≡ true = sym (query_roll testing qualified_steps (record { distinct = distinct; items = (map (λ z. z.0) items); from = (map (λ z. z.0) from); filter = (Some filter.0); group = group; having = None })) ∙ h in subst AllWritten (ap (λ m. m.marks v) (sym (query_roll marked mark_steps (record { distinct = distinct; items = (map (λ z. z.0) items); from = (map (λ z. z.0) from); filter = (Some filter.0); group = group; having = None })))) ((tt, both (of_each marking.item (map m_item (map (λ z. z.0) items)) (inside v (tables_of (map marking.chain (map m_chain (map (λ z. z.0) from)))))) (chains_marks v (calls_of (tables_of (map marking.chain (map m_chain (map (λ z. z.0) from))))) [] (map marking.chain (map m_chain (map (λ z. z.0) from))) ++ ((m_cond filter.0).marks (inside v (tables_of (map marking.chain (map m_chain (map (λ z. z.0) from))))) ++ (map (column (inside v (tables_of (map marking.chain (map m_chain (map (λ z. z.0) from))))).seen) group ++ ([])))) (each m_item u_item items (split (all_of_them (map u_item (map (λ z. z.0) items))) (all_of_them (map u_chain (map (λ z. z.0) from)) && (u_cond filter.0 && (list_all has_correlation group && (true)))) k).0 (inside v (tables_of (map marking.chain (map m_chain (map (λ z. z.0) from)))))) (both (chains_marks v (calls_of (tables_of (map marking.chain (map m_chain (map (λ z. z.0) from))))) [] (map marking.chain (map m_chain (map (λ z. z.0) from)))) ((m_cond filter.0).marks (inside v (tables_of (map marking.chain (map m_chain (map (λ z. z.0) from))))) ++ (map (column (inside v (tables_of (map marking.chain (map m_chain (map (λ z. z.0) from))))).seen) group ++ ([]))) (chains_marked (map marking.chain (map m_chain (map (λ z. z.0) from))) (chains_written from (split (all_of_them (map u_chain (map (λ z. z.0) from))) (u_cond filter.0 && (list_all has_correlation group && (true))) (split (all_of_them (map u_item (map (λ z. z.0) items))) (all_of_them (map u_chain (map (λ z. z.0) from)) && (u_cond filter.0 && (list_all has_correlation group && (true)))) k).1).0) v (calls_of (tables_of (map marking.chain (map m_chain (map (λ z. z.0) from))))) []) (both ((m_cond filter.0).marks (inside v (tables_of (map marking.chain (map m_chain (map (λ z. z.0) from)))))) (map (column (inside v (tables_of (map marking.chain (map m_chain (map (λ z. z.0) from))))).seen) group ++ ([])) (filter.1 (split (u_cond filter.0) (list_all has_correlation group && (true)) (split (all_of_them (map u_chain (map (λ z. z.0) from))) (u_cond filter.0 && (list_all has_correlation group && (true))) (split (all_of_them (map u_item (map (λ z. z.0) items))) (all_of_them (map u_chain (map (λ z. z.0) from)) && (u_cond filter.0 && (list_all has_correlation group && (true)))) k).1).1).0 (inside v (tables_of (map marking.chain (map m_chain (map (λ z. z.0) from)))))) (both (map (column (inside v (tables_of (map marking.chain (map m_chain (map (λ z. z.0) from))))).seen) group) ([]) (columns_written (inside v (tables_of (map marking.chain (map m_chain (map (λ z. z.0) from))))).seen group (split (list_all has_correlation group) (true) (split (u_cond filter.0) (list_all has_correlation group && (true)) (split (all_of_them (map u_chain (map (λ z. z.0) from))) (u_cond filter.0 && (list_all has_correlation group && (true))) (split (all_of_them (map u_item (map (λ z. z.0) items))) (all_of_them (map u_chain (map (λ z. z.0) from)) && (u_cond filter.0 && (list_all has_correlation group && (true)))) k).1).1).1).0) (tt))))))
query_good distinct items from (Some filter) group (Some having) = λ h v. let k : (all_of_them (map u_item (map (λ z. z.0) items)) && (all_of_them (map u_chain (map (λ z. z.0) from)) && (u_cond filter.0 && (list_all has_correlation group && (u_cond having.0))))) ≡ true = sym (query_roll testing qualified_steps (record { distinct = distinct; items = (map (λ z. z.0) items); from = (map (λ z. z.0) from); filter = (Some filter.0); group = group; having = (Some having.0) })) ∙ h in subst AllWritten (ap (λ m. m.marks v) (sym (query_roll marked mark_steps (record { distinct = distinct; items = (map (λ z. z.0) items); from = (map (λ z. z.0) from); filter = (Some filter.0); group = group; having = (Some having.0) })))) ((tt, both (of_each marking.item (map m_item (map (λ z. z.0) items)) (inside v (tables_of (map marking.chain (map m_chain (map (λ z. z.0) from)))))) (chains_marks v (calls_of (tables_of (map marking.chain (map m_chain (map (λ z. z.0) from))))) [] (map marking.chain (map m_chain (map (λ z. z.0) from))) ++ ((m_cond filter.0).marks (inside v (tables_of (map marking.chain (map m_chain (map (λ z. z.0) from))))) ++ (map (column (inside v (tables_of (map marking.chain (map m_chain (map (λ z. z.0) from))))).seen) group ++ ((m_cond having.0).marks (inside v (tables_of (map marking.chain (map m_chain (map (λ z. z.0) from))))))))) (each m_item u_item items (split (all_of_them (map u_item (map (λ z. z.0) items))) (all_of_them (map u_chain (map (λ z. z.0) from)) && (u_cond filter.0 && (list_all has_correlation group && (u_cond having.0)))) k).0 (inside v (tables_of (map marking.chain (map m_chain (map (λ z. z.0) from)))))) (both (chains_marks v (calls_of (tables_of (map marking.chain (map m_chain (map (λ z. z.0) from))))) [] (map marking.chain (map m_chain (map (λ z. z.0) from)))) ((m_cond filter.0).marks (inside v (tables_of (map marking.chain (map m_chain (map (λ z. z.0) from))))) ++ (map (column (inside v (tables_of (map marking.chain (map m_chain (map (λ z. z.0) from))))).seen) group ++ ((m_cond having.0).marks (inside v (tables_of (map marking.chain (map m_chain (map (λ z. z.0) from)))))))) (chains_marked (map marking.chain (map m_chain (map (λ z. z.0) from))) (chains_written from (split (all_of_them (map u_chain (map (λ z. z.0) from))) (u_cond filter.0 && (list_all has_correlation group && (u_cond having.0))) (split (all_of_them (map u_item (map (λ z. z.0) items))) (all_of_them (map u_chain (map (λ z. z.0) from)) && (u_cond filter.0 && (list_all has_correlation group && (u_cond having.0)))) k).1).0) v (calls_of (tables_of (map marking.chain (map m_chain (map (λ z. z.0) from))))) []) (both ((m_cond filter.0).marks (inside v (tables_of (map marking.chain (map m_chain (map (λ z. z.0) from)))))) (map (column (inside v (tables_of (map marking.chain (map m_chain (map (λ z. z.0) from))))).seen) group ++ ((m_cond having.0).marks (inside v (tables_of (map marking.chain (map m_chain (map (λ z. z.0) from))))))) (filter.1 (split (u_cond filter.0) (list_all has_correlation group && (u_cond having.0)) (split (all_of_them (map u_chain (map (λ z. z.0) from))) (u_cond filter.0 && (list_all has_correlation group && (u_cond having.0))) (split (all_of_them (map u_item (map (λ z. z.0) items))) (all_of_them (map u_chain (map (λ z. z.0) from)) && (u_cond filter.0 && (list_all has_correlation group && (u_cond having.0)))) k).1).1).0 (inside v (tables_of (map marking.chain (map m_chain (map (λ z. z.0) from)))))) (both (map (column (inside v (tables_of (map marking.chain (map m_chain (map (λ z. z.0) from))))).seen) group) ((m_cond having.0).marks (inside v (tables_of (map marking.chain (map m_chain (map (λ z. z.0) from)))))) (columns_written (inside v (tables_of (map marking.chain (map m_chain (map (λ z. z.0) from))))).seen group (split (list_all has_correlation group) (u_cond having.0) (split (u_cond filter.0) (list_all has_correlation group && (u_cond having.0)) (split (all_of_them (map u_chain (map (λ z. z.0) from))) (u_cond filter.0 && (list_all has_correlation group && (u_cond having.0))) (split (all_of_them (map u_item (map (λ z. z.0) items))) (all_of_them (map u_chain (map (λ z. z.0) from)) && (u_cond filter.0 && (list_all has_correlation group && (u_cond having.0)))) k).1).1).1).0) (having.1 (split (list_all has_correlation group) (u_cond having.0) (split (u_cond filter.0) (list_all has_correlation group && (u_cond having.0)) (split (all_of_them (map u_chain (map (λ z. z.0) from))) (u_cond filter.0 && (list_all has_correlation group && (u_cond having.0))) (split (all_of_them (map u_item (map (λ z. z.0) items))) (all_of_them (map u_chain (map (λ z. z.0) from)) && (u_cond filter.0 && (list_all has_correlation group && (u_cond having.0)))) k).1).1).1).1 (inside v (tables_of (map marking.chain (map m_chain (map (λ z. z.0) from)))))))))))

signed_good : (y : Goods layers.Signed-F) → GoodSigned (roll-Signed (down_signed y))
signed_good y = λ h v. let k : (u_expr y.part.0) ≡ true = sym (signed_roll testing qualified_steps (record { minus = y.minus; part = y.part.0 })) ∙ h in subst AllWritten (ap (λ m. m.marks v) (sym (signed_roll marked mark_steps (record { minus = y.minus; part = y.part.0 })))) (y.part.1 k v)

pub written_cond : (x : Cond) → GoodCond x
written_cond = ind-Cond GoodCond GoodExpr GoodItem GoodJoin GoodArm GoodChain GoodChoice GoodQuery GoodSigned (λ x y is. subst (λ z. GoodCond (roll-Cond z)) is (cond_good y)) (λ x y is. subst (λ z. GoodExpr (roll-Expr z)) is (expr_good y)) (λ x y is. subst (λ z. GoodItem (roll-Item z)) is (item_good y)) (λ x y is. subst (λ z. GoodJoin (roll-Join z)) is (join_good y)) (λ x y is. subst (λ z. GoodArm (roll-Arm z)) is (arm_good y)) (λ x y is. subst (λ z. GoodChain (roll-Chain z)) is (chain_good y)) (λ x y is. subst (λ z. GoodChoice (roll-Choice z)) is (choice_good y)) (λ x y is. subst (λ z. GoodQuery (roll-Query z)) is (query_good y.distinct y.items y.from y.filter y.group y.having)) (λ x y is. subst (λ z. GoodSigned (roll-Signed z)) is (signed_good y))

pub written_expr : (x : Expr) → GoodExpr x
written_expr = ind-Expr GoodCond GoodExpr GoodItem GoodJoin GoodArm GoodChain GoodChoice GoodQuery GoodSigned (λ x y is. subst (λ z. GoodCond (roll-Cond z)) is (cond_good y)) (λ x y is. subst (λ z. GoodExpr (roll-Expr z)) is (expr_good y)) (λ x y is. subst (λ z. GoodItem (roll-Item z)) is (item_good y)) (λ x y is. subst (λ z. GoodJoin (roll-Join z)) is (join_good y)) (λ x y is. subst (λ z. GoodArm (roll-Arm z)) is (arm_good y)) (λ x y is. subst (λ z. GoodChain (roll-Chain z)) is (chain_good y)) (λ x y is. subst (λ z. GoodChoice (roll-Choice z)) is (choice_good y)) (λ x y is. subst (λ z. GoodQuery (roll-Query z)) is (query_good y.distinct y.items y.from y.filter y.group y.having)) (λ x y is. subst (λ z. GoodSigned (roll-Signed z)) is (signed_good y))
