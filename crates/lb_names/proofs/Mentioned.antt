-- What a tree mentions is what its marks mention. tools/names-inductions writes this file.
use Rattle.std.proofs.Common.{◌≡◌, refl, ap, sym, subst, ◌∙◌, List, [], ◌∷◌, ◌++◌, Bool, Option, Some, None, map}
use Rattle.std.proofs.lemmas.List.Elements.{filter_map-append}
use Rattle.lb_tree.specs.declared.query.Cond.{Cond}
use Rattle.lb_tree.specs.declared.query.Expr.{Expr}
use Rattle.lb_tree.specs.declared.query.Item.{Item}
use Rattle.lb_tree.specs.declared.query.Join.{Join}
use Rattle.lb_tree.specs.declared.query.Arm.{Arm}
use Rattle.lb_tree.specs.declared.query.Chain.{Chain}
use Rattle.lb_tree.specs.declared.query.Choice.{Choice}
use Rattle.lb_tree.specs.declared.query.Query.{Query}
use Rattle.lb_tree.specs.declared.query.Signed.{Signed}
use Rattle.lb_tree.specs.declared.query.Atom.{Atom}
use Rattle.lb_tree.specs.declared.query.Atom.TheVariants as atoms
use Rattle.lb_tree.specs.declared.query.Column.{Column}
use Rattle.lb_tree.specs.declared.query.Tab.{Tab}
use Rattle.lb_tree.specs.declared.query.Cond.TheOpen as layers
use Rattle.lb_tree.specs.declared.query.Cond.TheViews.{roll-Cond, roll-Expr, roll-Item, roll-Join, roll-Arm, roll-Chain, roll-Choice, roll-Query, roll-Signed}
use Rattle.lb_tree.specs.declared.query.Cond.TheFolds.{map-Cond, map-Expr, map-Item, map-Join, map-Arm, map-Chain, map-Choice, map-Query, map-Signed, ind-Cond, ind-Expr, ind-Query}
use Rattle.lb_tree.specs.Folds.{Written, cond_of, expr_of, item_of, join_of, arm_of, chain_of, choice_of, query_of, signed_of}
use Rattle.lb_tree.proofs.Opens.{cond_roll, expr_roll, item_roll, join_roll, arm_roll, chain_roll, choice_roll, query_roll, signed_roll}
use Rattle.lb_names.specs.declared.place.Seen.{Seen}
use Rattle.lb_names.specs.Sights.{Name, correlation, calls_of, Sight, inside, inside_on}
use Rattle.lb_names.specs.Marks.{column, Marks, Marked, JoinMarks, ChainMarks, marked, marking, mark_steps, of_each, tables_of, tables_of_chain, joins_marks, chains_marks, atom_marks}
use Rattle.lb_names.specs.Mentions.{Mentions, table, mention, mentions, all_of, in_atom, naming, naming_steps}

abbrev pub m_cond : Cond → Marked
m_cond = cond_of marked mark_steps

abbrev pub n_cond : Cond → Mentions
n_cond = cond_of naming naming_steps

abbrev pub m_expr : Expr → Marked
m_expr = expr_of marked mark_steps

abbrev pub n_expr : Expr → Mentions
n_expr = expr_of naming naming_steps

abbrev pub m_item : Item → Marked
m_item = item_of marked mark_steps

abbrev pub n_item : Item → Mentions
n_item = item_of naming naming_steps

abbrev pub m_join : Join → JoinMarks
m_join = join_of marked mark_steps

abbrev pub n_join : Join → Mentions
n_join = join_of naming naming_steps

abbrev pub m_arm : Arm → Marked
m_arm = arm_of marked mark_steps

abbrev pub n_arm : Arm → Mentions
n_arm = arm_of naming naming_steps

abbrev pub m_chain : Chain → ChainMarks
m_chain = chain_of marked mark_steps

abbrev pub n_chain : Chain → Mentions
n_chain = chain_of naming naming_steps

abbrev pub m_choice : Choice → Marked
m_choice = choice_of marked mark_steps

abbrev pub n_choice : Choice → Mentions
n_choice = choice_of naming naming_steps

abbrev pub m_query : Query → Marked
m_query = query_of marked mark_steps

abbrev pub n_query : Query → Mentions
n_query = query_of naming naming_steps

abbrev pub m_signed : Signed → Marked
m_signed = signed_of marked mark_steps

abbrev pub n_signed : Signed → Mentions
n_signed = signed_of naming naming_steps

pub two : (xs ys : Marks) (ms ns : Mentions) → mentions xs ≡ ms → mentions ys ≡ ns → mentions (xs ++ ys) ≡ ms ++ ns
two xs ys ms ns h k = filter_map-append mention xs ys ∙ (λ i. h i ++ k i)

-- the same after a table
after : (n : Name) (xs ys : Marks) (ms ns : Mentions) → table n ∷ mentions xs ≡ ms → mentions ys ≡ ns → table n ∷ mentions (xs ++ ys) ≡ ms ++ ns
after n xs ys ms ns h k = ap (λ z. table n ∷ z) (filter_map-append mention xs ys) ∙ (λ i. h i ++ k i)

each : {X : Type 0} (F : X → Marked) (g : X → Mentions) (xs : List ((x : X) × ((v : Sight) → mentions ((F x).marks v) ≡ g x))) (v : Sight) → mentions (of_each (λ m. m.marks) (map F (map (λ z. z.0) xs)) v) ≡ all_of (map g (map (λ z. z.0) xs))
each F g [] v = refl
each F g (x ∷ xs) v = two ((F x.0).marks v) (of_each (λ m. m.marks) (map F (map (λ z. z.0) xs)) v) (g x.0) (all_of (map g (map (λ z. z.0) xs))) (x.1 v) (each F g xs v)

columns_good : (seen : List Seen) (cs : List Column) (ms : Marks) → mentions (map (column seen) cs ++ ms) ≡ mentions ms
columns_good seen [] ms = refl
columns_good seen (c ∷ cs) ms = columns_good seen cs ms

atom_good : (a : Atom) (v : Sight) → mentions (atom_marks a v) ≡ in_atom a
atom_good atoms.Null v = refl
atom_good (atoms.Int p) v = refl
atom_good (atoms.Text p) v = refl
atom_good (atoms.Date p) v = refl
atom_good atoms.CurrentDate v = refl
atom_good atoms.SessionUser v = refl
atom_good (atoms.Column p) v = refl
atom_good atoms.CountRows v = refl
atom_good (atoms.VerifyRole p) v = refl
atom_good (atoms.VerifyGroup p) v = refl
atom_good (atoms.SecLabel p q) v = refl
atom_good (atoms.SecLabelByName p q) v = refl
atom_good (atoms.SecLabelToChar p q) v = refl

abbrev GoodCond : Cond → Type 0
GoodCond x = (v : Sight) → mentions ((m_cond x).marks v) ≡ n_cond x

abbrev WithCond : Type 0
WithCond = (x : Cond) × GoodCond x

abbrev GoodExpr : Expr → Type 0
GoodExpr x = (v : Sight) → mentions ((m_expr x).marks v) ≡ n_expr x

abbrev WithExpr : Type 0
WithExpr = (x : Expr) × GoodExpr x

abbrev GoodItem : Item → Type 0
GoodItem x = (v : Sight) → mentions ((m_item x).marks v) ≡ n_item x

abbrev WithItem : Type 0
WithItem = (x : Item) × GoodItem x

abbrev GoodJoin : Join → Type 0
GoodJoin x = (v : Sight) → table (m_join x).tab.table ∷ mentions ((m_join x).on v) ≡ n_join x

abbrev WithJoin : Type 0
WithJoin = (x : Join) × GoodJoin x

abbrev GoodArm : Arm → Type 0
GoodArm x = (v : Sight) → mentions ((m_arm x).marks v) ≡ n_arm x

abbrev WithArm : Type 0
WithArm = (x : Arm) × GoodArm x

abbrev GoodChain : Chain → Type 0
GoodChain x = (v : Sight) (all before : List Name) → table (m_chain x).first.table ∷ mentions (joins_marks v all (before ++ correlation (m_chain x).first ∷ []) ((m_chain x).first ∷ []) (m_chain x).joins) ≡ n_chain x

abbrev WithChain : Type 0
WithChain = (x : Chain) × GoodChain x

abbrev GoodChoice : Choice → Type 0
GoodChoice x = (v : Sight) → mentions ((m_choice x).marks v) ≡ n_choice x

abbrev WithChoice : Type 0
WithChoice = (x : Choice) × GoodChoice x

abbrev GoodQuery : Query → Type 0
GoodQuery x = (v : Sight) → mentions ((m_query x).marks v) ≡ n_query x

abbrev WithQuery : Type 0
WithQuery = (x : Query) × GoodQuery x

abbrev GoodSigned : Signed → Type 0
GoodSigned x = (v : Sight) → mentions ((m_signed x).marks v) ≡ n_signed x

abbrev WithSigned : Type 0
WithSigned = (x : Signed) × GoodSigned x

-- a layer whose parts have their facts
abbrev Goods : (Type 0 → Type 0 → Type 0 → Type 0 → Type 0 → Type 0 → Type 0 → Type 0 → Type 0 → Type 0) → Type 0
Goods F = F WithCond WithExpr WithItem WithJoin WithArm WithChain WithChoice WithQuery WithSigned

abbrev down_cond : Goods layers.Cond-F → Written layers.Cond-F
down_cond = map-Cond WithCond WithExpr WithItem WithJoin WithArm WithChain WithChoice WithQuery WithSigned Cond Expr Item Join Arm Chain Choice Query Signed (λ z. z.0) (λ z. z.0) (λ z. z.0) (λ z. z.0) (λ z. z.0) (λ z. z.0) (λ z. z.0) (λ z. z.0) (λ z. z.0)

abbrev down_expr : Goods layers.Expr-F → Written layers.Expr-F
down_expr = map-Expr WithCond WithExpr WithItem WithJoin WithArm WithChain WithChoice WithQuery WithSigned Cond Expr Item Join Arm Chain Choice Query Signed (λ z. z.0) (λ z. z.0) (λ z. z.0) (λ z. z.0) (λ z. z.0) (λ z. z.0) (λ z. z.0) (λ z. z.0) (λ z. z.0)

abbrev down_item : Goods layers.Item-F → Written layers.Item-F
down_item = map-Item WithCond WithExpr WithItem WithJoin WithArm WithChain WithChoice WithQuery WithSigned Cond Expr Item Join Arm Chain Choice Query Signed (λ z. z.0) (λ z. z.0) (λ z. z.0) (λ z. z.0) (λ z. z.0) (λ z. z.0) (λ z. z.0) (λ z. z.0) (λ z. z.0)

abbrev down_join : Goods layers.Join-F → Written layers.Join-F
down_join = map-Join WithCond WithExpr WithItem WithJoin WithArm WithChain WithChoice WithQuery WithSigned Cond Expr Item Join Arm Chain Choice Query Signed (λ z. z.0) (λ z. z.0) (λ z. z.0) (λ z. z.0) (λ z. z.0) (λ z. z.0) (λ z. z.0) (λ z. z.0) (λ z. z.0)

abbrev down_arm : Goods layers.Arm-F → Written layers.Arm-F
down_arm = map-Arm WithCond WithExpr WithItem WithJoin WithArm WithChain WithChoice WithQuery WithSigned Cond Expr Item Join Arm Chain Choice Query Signed (λ z. z.0) (λ z. z.0) (λ z. z.0) (λ z. z.0) (λ z. z.0) (λ z. z.0) (λ z. z.0) (λ z. z.0) (λ z. z.0)

abbrev down_chain : Goods layers.Chain-F → Written layers.Chain-F
down_chain = map-Chain WithCond WithExpr WithItem WithJoin WithArm WithChain WithChoice WithQuery WithSigned Cond Expr Item Join Arm Chain Choice Query Signed (λ z. z.0) (λ z. z.0) (λ z. z.0) (λ z. z.0) (λ z. z.0) (λ z. z.0) (λ z. z.0) (λ z. z.0) (λ z. z.0)

abbrev down_choice : Goods layers.Choice-F → Written layers.Choice-F
down_choice = map-Choice WithCond WithExpr WithItem WithJoin WithArm WithChain WithChoice WithQuery WithSigned Cond Expr Item Join Arm Chain Choice Query Signed (λ z. z.0) (λ z. z.0) (λ z. z.0) (λ z. z.0) (λ z. z.0) (λ z. z.0) (λ z. z.0) (λ z. z.0) (λ z. z.0)

abbrev down_query : Goods layers.Query-F → Written layers.Query-F
down_query = map-Query WithCond WithExpr WithItem WithJoin WithArm WithChain WithChoice WithQuery WithSigned Cond Expr Item Join Arm Chain Choice Query Signed (λ z. z.0) (λ z. z.0) (λ z. z.0) (λ z. z.0) (λ z. z.0) (λ z. z.0) (λ z. z.0) (λ z. z.0) (λ z. z.0)

abbrev down_signed : Goods layers.Signed-F → Written layers.Signed-F
down_signed = map-Signed WithCond WithExpr WithItem WithJoin WithArm WithChain WithChoice WithQuery WithSigned Cond Expr Item Join Arm Chain Choice Query Signed (λ z. z.0) (λ z. z.0) (λ z. z.0) (λ z. z.0) (λ z. z.0) (λ z. z.0) (λ z. z.0) (λ z. z.0) (λ z. z.0)

joins_good : (js : List WithJoin) (v : Sight) (all before : List Name) (tabs : List Tab) → mentions (joins_marks v all before tabs (map marking.join (map m_join (map (λ z. z.0) js)))) ≡ all_of (map n_join (map (λ z. z.0) js))
joins_good [] v all before tabs = refl
joins_good (j ∷ js) v all before tabs =
    let tab : Tab = (m_join j.0).tab in
    after tab.table ((m_join j.0).on (inside_on v all (tabs ++ tab ∷ []))) (joins_marks v all (before ++ correlation tab ∷ []) (tabs ++ tab ∷ []) (map marking.join (map m_join (map (λ z. z.0) js)))) (n_join j.0) (all_of (map n_join (map (λ z. z.0) js))) (j.1 (inside_on v all (tabs ++ tab ∷ []))) (joins_good js v all (before ++ correlation tab ∷ []) (tabs ++ tab ∷ []))

chains_good : (cs : List WithChain) (v : Sight) (all before : List Name) → mentions (chains_marks v all before (map marking.chain (map m_chain (map (λ z. z.0) cs)))) ≡ all_of (map n_chain (map (λ z. z.0) cs))
chains_good [] v all before = refl
chains_good (c ∷ cs) v all before =
    let ch : ChainMarks = m_chain c.0 in
    after ch.first.table (joins_marks v all (before ++ correlation ch.first ∷ []) (ch.first ∷ []) ch.joins) (chains_marks v all (before ++ calls_of (tables_of_chain ch)) (map marking.chain (map m_chain (map (λ z. z.0) cs)))) (n_chain c.0) (all_of (map n_chain (map (λ z. z.0) cs))) (c.1 v all before) (chains_good cs v all (before ++ calls_of (tables_of_chain ch)))

cond_good : (y : Goods layers.Cond-F) → GoodCond (roll-Cond (down_cond y))
cond_good (layers.Cond-F.Or a) = λ v. ap (λ m. mentions (m.marks v)) (cond_roll marked mark_steps (layers.Cond-F.Or (map (λ z. z.0) a))) ∙ each m_cond n_cond a v ∙ sym (cond_roll naming naming_steps (layers.Cond-F.Or (map (λ z. z.0) a)))
cond_good (layers.Cond-F.And a) = λ v. ap (λ m. mentions (m.marks v)) (cond_roll marked mark_steps (layers.Cond-F.And (map (λ z. z.0) a))) ∙ each m_cond n_cond a v ∙ sym (cond_roll naming naming_steps (layers.Cond-F.And (map (λ z. z.0) a)))
cond_good (layers.Cond-F.Not a) = λ v. ap (λ m. mentions (m.marks v)) (cond_roll marked mark_steps (layers.Cond-F.Not a.0)) ∙ a.1 v ∙ sym (cond_roll naming naming_steps (layers.Cond-F.Not a.0))
cond_good (layers.Cond-F.Exists a) = λ v. ap (λ m. mentions (m.marks v)) (cond_roll marked mark_steps (layers.Cond-F.Exists a.0)) ∙ a.1 v ∙ sym (cond_roll naming naming_steps (layers.Cond-F.Exists a.0))
cond_good (layers.Cond-F.Compare a b c) = λ v. ap (λ m. mentions (m.marks v)) (cond_roll marked mark_steps (layers.Cond-F.Compare a b.0 c.0)) ∙ two ((m_expr b.0).marks v) ((m_expr c.0).marks v) (n_expr b.0) (n_expr c.0) (b.1 v) (c.1 v) ∙ sym (cond_roll naming naming_steps (layers.Cond-F.Compare a b.0 c.0))
cond_good (layers.Cond-F.CompareQuery a b c) = λ v. ap (λ m. mentions (m.marks v)) (cond_roll marked mark_steps (layers.Cond-F.CompareQuery a b.0 c.0)) ∙ two ((m_expr b.0).marks v) ((m_query c.0).marks v) (n_expr b.0) (n_query c.0) (b.1 v) (c.1 v) ∙ sym (cond_roll naming naming_steps (layers.Cond-F.CompareQuery a b.0 c.0))
cond_good (layers.Cond-F.IsNull a) = λ v. ap (λ m. mentions (m.marks v)) (cond_roll marked mark_steps (layers.Cond-F.IsNull a.0)) ∙ a.1 v ∙ sym (cond_roll naming naming_steps (layers.Cond-F.IsNull a.0))
cond_good (layers.Cond-F.InQuery a b) = λ v. ap (λ m. mentions (m.marks v)) (cond_roll marked mark_steps (layers.Cond-F.InQuery a.0 b.0)) ∙ two ((m_expr a.0).marks v) ((m_query b.0).marks v) (n_expr a.0) (n_query b.0) (a.1 v) (b.1 v) ∙ sym (cond_roll naming naming_steps (layers.Cond-F.InQuery a.0 b.0))
cond_good (layers.Cond-F.InList a b) = λ v. ap (λ m. mentions (m.marks v)) (cond_roll marked mark_steps (layers.Cond-F.InList a.0 (map (λ z. z.0) b))) ∙ two ((m_expr a.0).marks v) (of_each marking.expr (map m_expr (map (λ z. z.0) b)) v) (n_expr a.0) (all_of (map n_expr (map (λ z. z.0) b))) (a.1 v) (each m_expr n_expr b v) ∙ sym (cond_roll naming naming_steps (layers.Cond-F.InList a.0 (map (λ z. z.0) b)))
cond_good (layers.Cond-F.Between a b c) = λ v. ap (λ m. mentions (m.marks v)) (cond_roll marked mark_steps (layers.Cond-F.Between a.0 b.0 c.0)) ∙ two ((m_expr a.0).marks v) ((m_expr b.0).marks v ++ ((m_expr c.0).marks v)) (n_expr a.0) (n_expr b.0 ++ (n_expr c.0)) (a.1 v) (two ((m_expr b.0).marks v) ((m_expr c.0).marks v) (n_expr b.0) (n_expr c.0) (b.1 v) (c.1 v)) ∙ sym (cond_roll naming naming_steps (layers.Cond-F.Between a.0 b.0 c.0))

expr_good : (y : Goods layers.Expr-F) → GoodExpr (roll-Expr (down_expr y))
expr_good (layers.Expr-F.Atom a) = λ v. ap (λ m. mentions (m.marks v)) (expr_roll marked mark_steps (layers.Expr-F.Atom a)) ∙ atom_good a v ∙ sym (expr_roll naming naming_steps (layers.Expr-F.Atom a))
expr_good (layers.Expr-F.Sum a) = λ v. ap (λ m. mentions (m.marks v)) (expr_roll marked mark_steps (layers.Expr-F.Sum (map (λ z. z.0) a))) ∙ each m_signed n_signed a v ∙ sym (expr_roll naming naming_steps (layers.Expr-F.Sum (map (λ z. z.0) a)))
expr_good (layers.Expr-F.Concat a) = λ v. ap (λ m. mentions (m.marks v)) (expr_roll marked mark_steps (layers.Expr-F.Concat (map (λ z. z.0) a))) ∙ each m_expr n_expr a v ∙ sym (expr_roll naming naming_steps (layers.Expr-F.Concat (map (λ z. z.0) a)))
expr_good (layers.Expr-F.Product a) = λ v. ap (λ m. mentions (m.marks v)) (expr_roll marked mark_steps (layers.Expr-F.Product (map (λ z. z.0) a))) ∙ each m_expr n_expr a v ∙ sym (expr_roll naming naming_steps (layers.Expr-F.Product (map (λ z. z.0) a)))
expr_good (layers.Expr-F.Case a None) = λ v. ap (λ m. mentions (m.marks v)) (expr_roll marked mark_steps (layers.Expr-F.Case (map (λ z. z.0) a) None)) ∙ two (of_each marking.arm (map m_arm (map (λ z. z.0) a)) v) ([]) (all_of (map n_arm (map (λ z. z.0) a))) ([]) (each m_arm n_arm a v) (refl) ∙ sym (expr_roll naming naming_steps (layers.Expr-F.Case (map (λ z. z.0) a) None))
expr_good (layers.Expr-F.Case a (Some b)) = λ v. ap (λ m. mentions (m.marks v)) (expr_roll marked mark_steps (layers.Expr-F.Case (map (λ z. z.0) a) (Some b.0))) ∙ two (of_each marking.arm (map m_arm (map (λ z. z.0) a)) v) ((m_expr b.0).marks v) (all_of (map n_arm (map (λ z. z.0) a))) (n_expr b.0) (each m_arm n_arm a v) (b.1 v) ∙ sym (expr_roll naming naming_steps (layers.Expr-F.Case (map (λ z. z.0) a) (Some b.0)))
expr_good (layers.Expr-F.Match a b None) = λ v. ap (λ m. mentions (m.marks v)) (expr_roll marked mark_steps (layers.Expr-F.Match a.0 (map (λ z. z.0) b) None)) ∙ two ((m_expr a.0).marks v) (of_each marking.choice (map m_choice (map (λ z. z.0) b)) v ++ ([])) (n_expr a.0) (all_of (map n_choice (map (λ z. z.0) b)) ++ ([])) (a.1 v) (two (of_each marking.choice (map m_choice (map (λ z. z.0) b)) v) ([]) (all_of (map n_choice (map (λ z. z.0) b))) ([]) (each m_choice n_choice b v) (refl)) ∙ sym (expr_roll naming naming_steps (layers.Expr-F.Match a.0 (map (λ z. z.0) b) None))
expr_good (layers.Expr-F.Match a b (Some c)) = λ v. ap (λ m. mentions (m.marks v)) (expr_roll marked mark_steps (layers.Expr-F.Match a.0 (map (λ z. z.0) b) (Some c.0))) ∙ two ((m_expr a.0).marks v) (of_each marking.choice (map m_choice (map (λ z. z.0) b)) v ++ ((m_expr c.0).marks v)) (n_expr a.0) (all_of (map n_choice (map (λ z. z.0) b)) ++ (n_expr c.0)) (a.1 v) (two (of_each marking.choice (map m_choice (map (λ z. z.0) b)) v) ((m_expr c.0).marks v) (all_of (map n_choice (map (λ z. z.0) b))) (n_expr c.0) (each m_choice n_choice b v) (c.1 v)) ∙ sym (expr_roll naming naming_steps (layers.Expr-F.Match a.0 (map (λ z. z.0) b) (Some c.0)))
expr_good (layers.Expr-F.Aggregate a b) = λ v. ap (λ m. mentions (m.marks v)) (expr_roll marked mark_steps (layers.Expr-F.Aggregate a b.0)) ∙ b.1 v ∙ sym (expr_roll naming naming_steps (layers.Expr-F.Aggregate a b.0))
expr_good (layers.Expr-F.Substr a b None) = λ v. ap (λ m. mentions (m.marks v)) (expr_roll marked mark_steps (layers.Expr-F.Substr a.0 b.0 None)) ∙ two ((m_expr a.0).marks v) ((m_expr b.0).marks v ++ ([])) (n_expr a.0) (n_expr b.0 ++ ([])) (a.1 v) (two ((m_expr b.0).marks v) ([]) (n_expr b.0) ([]) (b.1 v) (refl)) ∙ sym (expr_roll naming naming_steps (layers.Expr-F.Substr a.0 b.0 None))
expr_good (layers.Expr-F.Substr a b (Some c)) = λ v. ap (λ m. mentions (m.marks v)) (expr_roll marked mark_steps (layers.Expr-F.Substr a.0 b.0 (Some c.0))) ∙ two ((m_expr a.0).marks v) ((m_expr b.0).marks v ++ ((m_expr c.0).marks v)) (n_expr a.0) (n_expr b.0 ++ (n_expr c.0)) (a.1 v) (two ((m_expr b.0).marks v) ((m_expr c.0).marks v) (n_expr b.0) (n_expr c.0) (b.1 v) (c.1 v)) ∙ sym (expr_roll naming naming_steps (layers.Expr-F.Substr a.0 b.0 (Some c.0)))
expr_good (layers.Expr-F.Apply a b) = λ v. ap (λ m. mentions (m.marks v)) (expr_roll marked mark_steps (layers.Expr-F.Apply a b.0)) ∙ b.1 v ∙ sym (expr_roll naming naming_steps (layers.Expr-F.Apply a b.0))
expr_good (layers.Expr-F.Coalesce a) = λ v. ap (λ m. mentions (m.marks v)) (expr_roll marked mark_steps (layers.Expr-F.Coalesce (map (λ z. z.0) a))) ∙ each m_expr n_expr a v ∙ sym (expr_roll naming naming_steps (layers.Expr-F.Coalesce (map (λ z. z.0) a)))

item_good : (y : Goods layers.Item-F) → GoodItem (roll-Item (down_item y))
item_good layers.Item-F.Everything = λ v. ap (λ m. mentions (m.marks v)) (item_roll marked mark_steps layers.Item-F.Everything) ∙ refl ∙ sym (item_roll naming naming_steps layers.Item-F.Everything)
item_good (layers.Item-F.AllOf a) = λ v. ap (λ m. mentions (m.marks v)) (item_roll marked mark_steps (layers.Item-F.AllOf a)) ∙ refl ∙ sym (item_roll naming naming_steps (layers.Item-F.AllOf a))
item_good (layers.Item-F.Value a b) = λ v. ap (λ m. mentions (m.marks v)) (item_roll marked mark_steps (layers.Item-F.Value a.0 b)) ∙ a.1 v ∙ sym (item_roll naming naming_steps (layers.Item-F.Value a.0 b))

join_good : (y : Goods layers.Join-F) → GoodJoin (roll-Join (down_join y))
join_good (layers.Join-F.Inner a b) = λ v. ap (λ j. table j.tab.table ∷ mentions (j.on v)) (join_roll marked mark_steps (layers.Join-F.Inner a b.0)) ∙ ap (λ z. table a.table ∷ z) (b.1 v) ∙ sym (join_roll naming naming_steps (layers.Join-F.Inner a b.0))
join_good (layers.Join-F.Left a b) = λ v. ap (λ j. table j.tab.table ∷ mentions (j.on v)) (join_roll marked mark_steps (layers.Join-F.Left a b.0)) ∙ ap (λ z. table a.table ∷ z) (b.1 v) ∙ sym (join_roll naming naming_steps (layers.Join-F.Left a b.0))
join_good (layers.Join-F.Cross a) = λ v. ap (λ j. table j.tab.table ∷ mentions (j.on v)) (join_roll marked mark_steps (layers.Join-F.Cross a)) ∙ refl ∙ sym (join_roll naming naming_steps (layers.Join-F.Cross a))

arm_good : (y : Goods layers.Arm-F) → GoodArm (roll-Arm (down_arm y))
arm_good y = λ v. ap (λ m. mentions (m.marks v)) (arm_roll marked mark_steps (record { when = y.when.0; result = y.result.0 })) ∙ two ((m_cond y.when.0).marks v) ((m_expr y.result.0).marks v) (n_cond y.when.0) (n_expr y.result.0) (y.when.1 v) (y.result.1 v) ∙ sym (arm_roll naming naming_steps (record { when = y.when.0; result = y.result.0 }))

chain_good : (y : Goods layers.Chain-F) → GoodChain (roll-Chain (down_chain y))
chain_good y = λ v all before. ap (λ c. table c.first.table ∷ mentions (joins_marks v all (before ++ correlation c.first ∷ []) (c.first ∷ []) c.joins)) (chain_roll marked mark_steps (record { first = y.first; joins = (map (λ z. z.0) y.joins) })) ∙ ap (λ z. table y.first.table ∷ z) (joins_good y.joins v all (before ++ correlation y.first ∷ []) (y.first ∷ [])) ∙ sym (chain_roll naming naming_steps (record { first = y.first; joins = (map (λ z. z.0) y.joins) }))

choice_good : (y : Goods layers.Choice-F) → GoodChoice (roll-Choice (down_choice y))
choice_good y = λ v. ap (λ m. mentions (m.marks v)) (choice_roll marked mark_steps (record { when = y.when.0; result = y.result.0 })) ∙ two ((m_expr y.when.0).marks v) ((m_expr y.result.0).marks v) (n_expr y.when.0) (n_expr y.result.0) (y.when.1 v) (y.result.1 v) ∙ sym (choice_roll naming naming_steps (record { when = y.when.0; result = y.result.0 }))

query_good : (distinct : Bool) (items : List WithItem) (from : List WithChain) (filter : Option WithCond) (group : List Column) (having : Option WithCond)
    → GoodQuery (roll-Query (down_query (record { distinct = distinct; items = items; from = from; filter = filter; group = group; having = having })))
query_good distinct items from None group None = λ v. ap (λ m. mentions (m.marks v)) (query_roll marked mark_steps (record { distinct = distinct; items = (map (λ z. z.0) items); from = (map (λ z. z.0) from); filter = None; group = group; having = None })) ∙ two (of_each marking.item (map m_item (map (λ z. z.0) items)) (inside v (tables_of (map marking.chain (map m_chain (map (λ z. z.0) from)))))) (chains_marks v (calls_of (tables_of (map marking.chain (map m_chain (map (λ z. z.0) from))))) [] (map marking.chain (map m_chain (map (λ z. z.0) from))) ++ ([] ++ (map (column (inside v (tables_of (map marking.chain (map m_chain (map (λ z. z.0) from))))).seen) group ++ []))) (all_of (map n_item (map (λ z. z.0) items))) (all_of (map n_chain (map (λ z. z.0) from)) ++ ([] ++ [])) (each m_item n_item items (inside v (tables_of (map marking.chain (map m_chain (map (λ z. z.0) from)))))) (two (chains_marks v (calls_of (tables_of (map marking.chain (map m_chain (map (λ z. z.0) from))))) [] (map marking.chain (map m_chain (map (λ z. z.0) from)))) ([] ++ (map (column (inside v (tables_of (map marking.chain (map m_chain (map (λ z. z.0) from))))).seen) group ++ [])) (all_of (map n_chain (map (λ z. z.0) from))) ([] ++ []) (chains_good from v (calls_of (tables_of (map marking.chain (map m_chain (map (λ z. z.0) from))))) []) (two ([]) (map (column (inside v (tables_of (map marking.chain (map m_chain (map (λ z. z.0) from))))).seen) group ++ []) ([]) ([]) (refl) (columns_good (inside v (tables_of (map marking.chain (map m_chain (map (λ z. z.0) from))))).seen group ([]) ∙ refl))) ∙ sym (query_roll naming naming_steps (record { distinct = distinct; items = (map (λ z. z.0) items); from = (map (λ z. z.0) from); filter = None; group = group; having = None }))
query_good distinct items from None group (Some having) = λ v. ap (λ m. mentions (m.marks v)) (query_roll marked mark_steps (record { distinct = distinct; items = (map (λ z. z.0) items); from = (map (λ z. z.0) from); filter = None; group = group; having = (Some having.0) })) ∙ two (of_each marking.item (map m_item (map (λ z. z.0) items)) (inside v (tables_of (map marking.chain (map m_chain (map (λ z. z.0) from)))))) (chains_marks v (calls_of (tables_of (map marking.chain (map m_chain (map (λ z. z.0) from))))) [] (map marking.chain (map m_chain (map (λ z. z.0) from))) ++ ([] ++ (map (column (inside v (tables_of (map marking.chain (map m_chain (map (λ z. z.0) from))))).seen) group ++ (m_cond having.0).marks (inside v (tables_of (map marking.chain (map m_chain (map (λ z. z.0) from)))))))) (all_of (map n_item (map (λ z. z.0) items))) (all_of (map n_chain (map (λ z. z.0) from)) ++ ([] ++ n_cond having.0)) (each m_item n_item items (inside v (tables_of (map marking.chain (map m_chain (map (λ z. z.0) from)))))) (two (chains_marks v (calls_of (tables_of (map marking.chain (map m_chain (map (λ z. z.0) from))))) [] (map marking.chain (map m_chain (map (λ z. z.0) from)))) ([] ++ (map (column (inside v (tables_of (map marking.chain (map m_chain (map (λ z. z.0) from))))).seen) group ++ (m_cond having.0).marks (inside v (tables_of (map marking.chain (map m_chain (map (λ z. z.0) from))))))) (all_of (map n_chain (map (λ z. z.0) from))) ([] ++ n_cond having.0) (chains_good from v (calls_of (tables_of (map marking.chain (map m_chain (map (λ z. z.0) from))))) []) (two ([]) (map (column (inside v (tables_of (map marking.chain (map m_chain (map (λ z. z.0) from))))).seen) group ++ (m_cond having.0).marks (inside v (tables_of (map marking.chain (map m_chain (map (λ z. z.0) from)))))) ([]) (n_cond having.0) (refl) (columns_good (inside v (tables_of (map marking.chain (map m_chain (map (λ z. z.0) from))))).seen group ((m_cond having.0).marks (inside v (tables_of (map marking.chain (map m_chain (map (λ z. z.0) from)))))) ∙ having.1 (inside v (tables_of (map marking.chain (map m_chain (map (λ z. z.0) from)))))))) ∙ sym (query_roll naming naming_steps (record { distinct = distinct; items = (map (λ z. z.0) items); from = (map (λ z. z.0) from); filter = None; group = group; having = (Some having.0) }))
query_good distinct items from (Some filter) group None = λ v. ap (λ m. mentions (m.marks v)) (query_roll marked mark_steps (record { distinct = distinct; items = (map (λ z. z.0) items); from = (map (λ z. z.0) from); filter = (Some filter.0); group = group; having = None })) ∙ two (of_each marking.item (map m_item (map (λ z. z.0) items)) (inside v (tables_of (map marking.chain (map m_chain (map (λ z. z.0) from)))))) (chains_marks v (calls_of (tables_of (map marking.chain (map m_chain (map (λ z. z.0) from))))) [] (map marking.chain (map m_chain (map (λ z. z.0) from))) ++ ((m_cond filter.0).marks (inside v (tables_of (map marking.chain (map m_chain (map (λ z. z.0) from))))) ++ (map (column (inside v (tables_of (map marking.chain (map m_chain (map (λ z. z.0) from))))).seen) group ++ []))) (all_of (map n_item (map (λ z. z.0) items))) (all_of (map n_chain (map (λ z. z.0) from)) ++ (n_cond filter.0 ++ [])) (each m_item n_item items (inside v (tables_of (map marking.chain (map m_chain (map (λ z. z.0) from)))))) (two (chains_marks v (calls_of (tables_of (map marking.chain (map m_chain (map (λ z. z.0) from))))) [] (map marking.chain (map m_chain (map (λ z. z.0) from)))) ((m_cond filter.0).marks (inside v (tables_of (map marking.chain (map m_chain (map (λ z. z.0) from))))) ++ (map (column (inside v (tables_of (map marking.chain (map m_chain (map (λ z. z.0) from))))).seen) group ++ [])) (all_of (map n_chain (map (λ z. z.0) from))) (n_cond filter.0 ++ []) (chains_good from v (calls_of (tables_of (map marking.chain (map m_chain (map (λ z. z.0) from))))) []) (two ((m_cond filter.0).marks (inside v (tables_of (map marking.chain (map m_chain (map (λ z. z.0) from)))))) (map (column (inside v (tables_of (map marking.chain (map m_chain (map (λ z. z.0) from))))).seen) group ++ []) (n_cond filter.0) ([]) (filter.1 (inside v (tables_of (map marking.chain (map m_chain (map (λ z. z.0) from)))))) (columns_good (inside v (tables_of (map marking.chain (map m_chain (map (λ z. z.0) from))))).seen group ([]) ∙ refl))) ∙ sym (query_roll naming naming_steps (record { distinct = distinct; items = (map (λ z. z.0) items); from = (map (λ z. z.0) from); filter = (Some filter.0); group = group; having = None }))
query_good distinct items from (Some filter) group (Some having) = λ v. ap (λ m. mentions (m.marks v)) (query_roll marked mark_steps (record { distinct = distinct; items = (map (λ z. z.0) items); from = (map (λ z. z.0) from); filter = (Some filter.0); group = group; having = (Some having.0) })) ∙ two (of_each marking.item (map m_item (map (λ z. z.0) items)) (inside v (tables_of (map marking.chain (map m_chain (map (λ z. z.0) from)))))) (chains_marks v (calls_of (tables_of (map marking.chain (map m_chain (map (λ z. z.0) from))))) [] (map marking.chain (map m_chain (map (λ z. z.0) from))) ++ ((m_cond filter.0).marks (inside v (tables_of (map marking.chain (map m_chain (map (λ z. z.0) from))))) ++ (map (column (inside v (tables_of (map marking.chain (map m_chain (map (λ z. z.0) from))))).seen) group ++ (m_cond having.0).marks (inside v (tables_of (map marking.chain (map m_chain (map (λ z. z.0) from)))))))) (all_of (map n_item (map (λ z. z.0) items))) (all_of (map n_chain (map (λ z. z.0) from)) ++ (n_cond filter.0 ++ n_cond having.0)) (each m_item n_item items (inside v (tables_of (map marking.chain (map m_chain (map (λ z. z.0) from)))))) (two (chains_marks v (calls_of (tables_of (map marking.chain (map m_chain (map (λ z. z.0) from))))) [] (map marking.chain (map m_chain (map (λ z. z.0) from)))) ((m_cond filter.0).marks (inside v (tables_of (map marking.chain (map m_chain (map (λ z. z.0) from))))) ++ (map (column (inside v (tables_of (map marking.chain (map m_chain (map (λ z. z.0) from))))).seen) group ++ (m_cond having.0).marks (inside v (tables_of (map marking.chain (map m_chain (map (λ z. z.0) from))))))) (all_of (map n_chain (map (λ z. z.0) from))) (n_cond filter.0 ++ n_cond having.0) (chains_good from v (calls_of (tables_of (map marking.chain (map m_chain (map (λ z. z.0) from))))) []) (two ((m_cond filter.0).marks (inside v (tables_of (map marking.chain (map m_chain (map (λ z. z.0) from)))))) (map (column (inside v (tables_of (map marking.chain (map m_chain (map (λ z. z.0) from))))).seen) group ++ (m_cond having.0).marks (inside v (tables_of (map marking.chain (map m_chain (map (λ z. z.0) from)))))) (n_cond filter.0) (n_cond having.0) (filter.1 (inside v (tables_of (map marking.chain (map m_chain (map (λ z. z.0) from)))))) (columns_good (inside v (tables_of (map marking.chain (map m_chain (map (λ z. z.0) from))))).seen group ((m_cond having.0).marks (inside v (tables_of (map marking.chain (map m_chain (map (λ z. z.0) from)))))) ∙ having.1 (inside v (tables_of (map marking.chain (map m_chain (map (λ z. z.0) from)))))))) ∙ sym (query_roll naming naming_steps (record { distinct = distinct; items = (map (λ z. z.0) items); from = (map (λ z. z.0) from); filter = (Some filter.0); group = group; having = (Some having.0) }))

signed_good : (y : Goods layers.Signed-F) → GoodSigned (roll-Signed (down_signed y))
signed_good y = λ v. ap (λ m. mentions (m.marks v)) (signed_roll marked mark_steps (record { minus = y.minus; part = y.part.0 })) ∙ y.part.1 v ∙ sym (signed_roll naming naming_steps (record { minus = y.minus; part = y.part.0 }))

pub mentioned_cond : (x : Cond) → GoodCond x
mentioned_cond = ind-Cond GoodCond GoodExpr GoodItem GoodJoin GoodArm GoodChain GoodChoice GoodQuery GoodSigned (λ x y is. subst (λ z. GoodCond (roll-Cond z)) is (cond_good y)) (λ x y is. subst (λ z. GoodExpr (roll-Expr z)) is (expr_good y)) (λ x y is. subst (λ z. GoodItem (roll-Item z)) is (item_good y)) (λ x y is. subst (λ z. GoodJoin (roll-Join z)) is (join_good y)) (λ x y is. subst (λ z. GoodArm (roll-Arm z)) is (arm_good y)) (λ x y is. subst (λ z. GoodChain (roll-Chain z)) is (chain_good y)) (λ x y is. subst (λ z. GoodChoice (roll-Choice z)) is (choice_good y)) (λ x y is. subst (λ z. GoodQuery (roll-Query z)) is (query_good y.distinct y.items y.from y.filter y.group y.having)) (λ x y is. subst (λ z. GoodSigned (roll-Signed z)) is (signed_good y))

pub mentioned_expr : (x : Expr) → GoodExpr x
mentioned_expr = ind-Expr GoodCond GoodExpr GoodItem GoodJoin GoodArm GoodChain GoodChoice GoodQuery GoodSigned (λ x y is. subst (λ z. GoodCond (roll-Cond z)) is (cond_good y)) (λ x y is. subst (λ z. GoodExpr (roll-Expr z)) is (expr_good y)) (λ x y is. subst (λ z. GoodItem (roll-Item z)) is (item_good y)) (λ x y is. subst (λ z. GoodJoin (roll-Join z)) is (join_good y)) (λ x y is. subst (λ z. GoodArm (roll-Arm z)) is (arm_good y)) (λ x y is. subst (λ z. GoodChain (roll-Chain z)) is (chain_good y)) (λ x y is. subst (λ z. GoodChoice (roll-Choice z)) is (choice_good y)) (λ x y is. subst (λ z. GoodQuery (roll-Query z)) is (query_good y.distinct y.items y.from y.filter y.group y.having)) (λ x y is. subst (λ z. GoodSigned (roll-Signed z)) is (signed_good y))

pub mentioned_query : (x : Query) → GoodQuery x
mentioned_query = ind-Query GoodCond GoodExpr GoodItem GoodJoin GoodArm GoodChain GoodChoice GoodQuery GoodSigned (λ x y is. subst (λ z. GoodCond (roll-Cond z)) is (cond_good y)) (λ x y is. subst (λ z. GoodExpr (roll-Expr z)) is (expr_good y)) (λ x y is. subst (λ z. GoodItem (roll-Item z)) is (item_good y)) (λ x y is. subst (λ z. GoodJoin (roll-Join z)) is (join_good y)) (λ x y is. subst (λ z. GoodArm (roll-Arm z)) is (arm_good y)) (λ x y is. subst (λ z. GoodChain (roll-Chain z)) is (chain_good y)) (λ x y is. subst (λ z. GoodChoice (roll-Choice z)) is (choice_good y)) (λ x y is. subst (λ z. GoodQuery (roll-Query z)) is (query_good y.distinct y.items y.from y.filter y.group y.having)) (λ x y is. subst (λ z. GoodSigned (roll-Signed z)) is (signed_good y))
