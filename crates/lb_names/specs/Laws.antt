-- What is proved of these definitions.
use Rattle.std.specs.Prelude.{◌≡◌, Bool, true, not, ◌&&◌, List, [], ◌∷◌, None, Ok}
use Rattle.lb_tree.specs.declared.query.Column.{Column}
use Rattle.lb_names.specs.declared.place.Seen.{Seen}
use Rattle.lb_tree.specs.declared.query.Tab.{Tab}
use Rattle.lb_tree.specs.declared.query.Cond.{Cond}
use Rattle.lb_tree.specs.declared.query.Expr.{Expr}
use Rattle.lb_tree.specs.declared.query.Query.{Query}
use Rattle.lb_stmt.specs.declared.write.Stmt.{Stmt}
use Rattle.lb_names.specs.Sights.{Name, Sight, correlation}
use Rattle.lb_names.specs.Passes.{is_called}
use Rattle.lb_names.specs.Qualify.{with_item}
use Rattle.lb_names.specs.Marks.{cond_marks, expr_marks, query_marks}
use Rattle.lb_names.specs.StatementMarks.{marks_of}
use Rattle.lb_names.specs.Mentions.{table, in_cond, in_expr, in_query, in_stmt, mentions}
use Rattle.lb_names.specs.Scopes.{Catalogue, Found, resolve}
use Rattle.lb_names.specs.Typing.{says, means, answers}
use Rattle.lb_names.specs.Statements.{names_refused, types_refused, permission_names_refused, permission_types_refused, permission_qualified, mask_names_refused, mask_types_refused, mask_qualified}
use Rattle.lb_names.specs.Qualified.{are_qualified, are_qualified_in}
use Rattle.lb_names.specs.Agreeing.{AgreeOn, AreThere}
use Rattle.lb_names.specs.Growing.{IsGrown}

-- what is mentioned is what the marks mention, in their order, wherever a part stands
pub record MentionsAreMarked : Type 0 where
  pub in_cond : (c : Cond) (v : Sight) → mentions (cond_marks c v) ≡ in_cond c
  pub in_expr : (e : Expr) (v : Sight) → mentions (expr_marks e v) ≡ in_expr e
  pub in_query : (q : Query) (v : Sight) → mentions (query_marks q v) ≡ in_query q
  pub in_stmt : (s : Stmt) → mentions (marks_of s) ≡ in_stmt s

-- the names that typing sees in a tree are its marks, in every catalogue
pub record TypingCarriesMarks (C : Catalogue) : Type 0 where
  pub cond : (c : Cond) (v : Sight) → (says C c).marks v ≡ cond_marks c v
  pub expr : (e : Expr) (v : Sight) → (means C e).marks v ≡ expr_marks e v
  pub query : (q : Query) (v : Sight) → (answers C q).marks v ≡ query_marks q v

-- catalogues that agree on what a statement mentions, or a permission or mask with its table, refuse the same for names
pub record NamesHaveAFrame (C D : Catalogue) : Type 0 where
  pub stmt : (s : Stmt) → AgreeOn C D (in_stmt s) → names_refused C s ≡ names_refused D s
  pub permission : (tab : Tab) (c : Cond) → AgreeOn C D (table tab.table ∷ in_cond c) → permission_names_refused C tab c ≡ permission_names_refused D tab c
  pub mask : (tab : Tab) (e : Expr) → AgreeOn C D (table tab.table ∷ in_expr e) → mask_names_refused C tab e ≡ mask_names_refused D tab e

-- and the same for types
pub record TypesHaveAFrame (C D : Catalogue) : Type 0 where
  pub stmt : (s : Stmt) → AgreeOn C D (in_stmt s) → types_refused C s ≡ types_refused D s
  pub permission : (tab : Tab) (c : Cond) → AgreeOn C D (table tab.table ∷ in_cond c) → permission_types_refused C tab c ≡ permission_types_refused D tab c
  pub mask : (tab : Tab) (column : Name) (e : Expr) → AgreeOn C D (table tab.table ∷ in_expr e) → mask_types_refused C tab column e ≡ mask_types_refused D tab column e

-- and they give one qualified form
pub record FormsHaveAFrame (C D : Catalogue) : Type 0 where
  pub permission : (tab : Tab) (c : Cond) → AgreeOn C D (table tab.table ∷ in_cond c) → permission_qualified C tab c ≡ permission_qualified D tab c
  pub mask : (tab : Tab) (e : Expr) → AgreeOn C D (table tab.table ∷ in_expr e) → mask_qualified C tab e ≡ mask_qualified D tab e

-- the qualified form mentions what is mentioned as it is written
pub record FormsKeepMentions (C : Catalogue) : Type 0 where
  pub permission : (tab : Tab) (c : Cond) → in_cond (permission_qualified C tab c) ≡ in_cond c
  pub mask : (tab : Tab) (e : Expr) → in_expr (mask_qualified C tab e) ≡ in_expr e

-- what is mentioned is there, where the names are not refused
pub record MentionsAreThere (C : Catalogue) : Type 0 where
  pub stmt : (s : Stmt) → names_refused C s ≡ None → AreThere C (in_stmt s)
  pub permission : (tab : Tab) (c : Cond) → permission_names_refused C tab c ≡ None → AreThere C (in_cond c)
  pub mask : (tab : Tab) (e : Expr) → mask_names_refused C tab e ≡ None → AreThere C (in_expr e)

-- each column of the qualified form has a correlation name, where the names are not refused
pub record FormsAreQualified (C : Catalogue) : Type 0 where
  pub permission : (tab : Tab) (c : Cond) → permission_names_refused C tab c ≡ None → are_qualified (permission_qualified C tab c) ≡ true
  pub mask : (tab : Tab) (e : Expr) → mask_names_refused C tab e ≡ None → are_qualified_in (mask_qualified C tab e) ≡ true

-- no two of these items have one correlation name
abbrev pub are_apart : List Seen → Bool
are_apart [] = true
are_apart (s ∷ seen) = not (is_called (correlation s.tab) seen) && are_apart seen

-- a column means what it meant when it is qualified, where no two items in sight have one correlation name, as in a stored condition
pub record ColumnsStay (C : Catalogue) : Type 0 where
  pub column : (seen : List Seen) (c : Column) (x : Found) → are_apart seen ≡ true → resolve C seen c ≡ Ok x → resolve C seen (with_item C seen c) ≡ Ok x

-- the names of a qualified condition or CASE stay unrefused where tables get more columns
pub record NamesOutlastColumns (C D : Catalogue) : Type 0 where
  pub permission : (tab : Tab) (c : Cond) → IsGrown C D → are_qualified c ≡ true → permission_names_refused C tab c ≡ None → permission_names_refused D tab c ≡ None
  pub mask : (tab : Tab) (e : Expr) → IsGrown C D → are_qualified_in e ≡ true → mask_names_refused C tab e ≡ None → mask_names_refused D tab e ≡ None

-- so do its types
pub record TypesOutlastColumns (C D : Catalogue) : Type 0 where
  pub permission : (tab : Tab) (c : Cond) → IsGrown C D → are_qualified c ≡ true → permission_types_refused C tab c ≡ None → permission_types_refused D tab c ≡ None
  pub mask : (tab : Tab) (column : Name) (e : Expr) → IsGrown C D → are_qualified_in e ≡ true → mask_types_refused C tab column e ≡ None → mask_types_refused D tab column e ≡ None

-- The names of the qualified form are not refused where those of the condition are not, over the table by the same correlation name.
pub record FormsKeepNames (C : Catalogue) : Type 0 where
  pub permission : (tab other : Tab) → tab.table ≡ other.table → correlation tab ≡ correlation other → (c : Cond) → permission_names_refused C tab c ≡ None → permission_names_refused C other (permission_qualified C tab c) ≡ None
  pub mask : (tab other : Tab) → tab.table ≡ other.table → correlation tab ≡ correlation other → (e : Expr) → mask_names_refused C tab e ≡ None → mask_names_refused C other (mask_qualified C tab e) ≡ None

-- The types of the qualified form are refused where those of the condition are, at the same node, if the names of the condition are not, over the table by the same correlation name.
pub record FormsKeepTypes (C : Catalogue) : Type 0 where
  pub permission : (tab other : Tab) → tab.table ≡ other.table → correlation tab ≡ correlation other → (c : Cond) → permission_names_refused C tab c ≡ None → permission_types_refused C other (permission_qualified C tab c) ≡ permission_types_refused C tab c
  pub mask : (tab other : Tab) → tab.table ≡ other.table → correlation tab ≡ correlation other → (column : Name) (e : Expr) → mask_names_refused C tab e ≡ None → mask_types_refused C other column (mask_qualified C tab e) ≡ mask_types_refused C tab column e
