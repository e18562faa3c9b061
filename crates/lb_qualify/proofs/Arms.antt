-- The forms of the nodes with many parts.
use Rattle.std.proofs.Common.{◌≡◌, sym, ap, ◌∙◌, List, ◌++◌, Option, map}
use Rattle.std.specs.Option.{option_map}
use Rattle.lb_tree.specs.declared.query.Chain.{Chain}
use Rattle.lb_tree.specs.declared.query.Choice.{Choice}
use Rattle.lb_tree.specs.declared.query.Column.{Column}
use Rattle.lb_tree.specs.declared.query.Cond.{Cond}
use Rattle.lb_tree.specs.declared.query.Expr.{Expr}
use Rattle.lb_tree.specs.declared.query.Expr.TheVariants as exprs
use Rattle.lb_tree.specs.declared.query.Item.{Item}
use Rattle.lb_tree.specs.declared.query.Query.{Query}
use Rattle.lb_tree.specs.declared.query.Cond.TheViews.{roll-Query, out-Query}
use Rattle.lb_tree.specs.Folds.{chain_of}
use Rattle.lb_names.specs.declared.place.Seen.{Seen}
use Rattle.lb_names.specs.Sights.{items_in}
use Rattle.lb_names.specs.Marks.{marked, mark_steps, tables_of}
use Rattle.lb_names.specs.Qualify.{with_item}
use Rattle.lb_scope.specs.Found.{catalogue}
use Rattle.lb_qualify.specs.declared.leaf.Qualifier.{Qualifier}
use Rattle.lb_qualify.specs.Forms as f
use Rattle.lb_qualify.proofs.Nodes.{match_form, substr_form, query_form}

module _ (q : Qualifier) (seen : List Seen) where
  pub match_made : (e x y made : Expr) (choices list forms : List Choice) (otherwise last : Option Expr)
      → e ≡ exprs.Match x choices otherwise → y ≡ x → made ≡ f.in_expr q y seen → list ≡ choices → forms ≡ map (λ c. f.in_choice q c seen) list
      → last ≡ option_map (λ z. f.in_expr q z seen) otherwise → exprs.Match made forms last ≡ f.in_expr q e seen
  match_made e x y made choices list forms otherwise last is xs hx cs hc hl =
      let one : made ≡ f.in_expr q x seen = hx ∙ ap (λ (z : Expr). f.in_expr q z seen) xs in
      let two : forms ≡ map (λ c. f.in_choice q c seen) choices = hc ∙ ap (λ (zs : List Choice). map (λ c. f.in_choice q c seen) zs) cs in
      (λ i. exprs.Match (one i) (two i) (hl i)) ∙ sym (ap (λ (z : Expr). f.in_expr q z seen) is ∙ match_form q x choices otherwise seen)

  pub substr_made : (e x y made from start begun : Expr) (n last : Option Expr)
      → e ≡ exprs.Substr x from n → y ≡ x → made ≡ f.in_expr q y seen → start ≡ from → begun ≡ f.in_expr q start seen
      → last ≡ option_map (λ z. f.in_expr q z seen) n → exprs.Substr made begun last ≡ f.in_expr q e seen
  substr_made e x y made from start begun n last is xs hx fs hf hl =
      let one : made ≡ f.in_expr q x seen = hx ∙ ap (λ (z : Expr). f.in_expr q z seen) xs in
      let two : begun ≡ f.in_expr q from seen = hf ∙ ap (λ (z : Expr). f.in_expr q z seen) fs in
      (λ i. exprs.Substr (one i) (two i) (hl i)) ∙ sym (ap (λ (z : Expr). f.in_expr q z seen) is ∙ substr_form q x from n seen)

pub query_made : (q : Qualifier) (x : Query) (outer inner : List Seen) (items : List Item) (from : List Chain) (filter : Option Cond) (group : List Column) (having : Option Cond)
    → inner ≡ items_in outer (tables_of (map (chain_of marked mark_steps) (out-Query x).from)) ++ outer
    → items ≡ map (λ i. f.in_item q i inner) (out-Query x).items
    → from ≡ map (λ c. f.in_chain q c outer) (out-Query x).from
    → filter ≡ option_map (λ c. f.in_cond q c inner) (out-Query x).filter
    → group ≡ map (with_item (catalogue q.catalog.now) inner) (out-Query x).group
    → having ≡ option_map (λ c. f.in_cond q c inner) (out-Query x).having
    → roll-Query (record { distinct = (out-Query x).distinct; items = items; from = from; filter = filter; group = group; having = having }) ≡ f.in_query q x outer
query_made q x outer inner items from filter group having h a b c d e =
    (λ i. roll-Query (record { distinct = (out-Query x).distinct; items = a i; from = b i; filter = c i; group = d i; having = e i })) ∙ sym (query_form q x outer inner h)
