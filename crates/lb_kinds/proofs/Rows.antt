-- Rows of FROM: each joined row has a row of each table, whichever conditions are true.
use Rattle.std.proofs.Common.{ℕ, zero, suc, ◌≡◌, refl, sym, subst, Bool, true, false, List, [], ◌∷◌, ◌++◌, map, fold, Option, Some, None, Ok, Err, if◌then◌else◌, unwrap_or, append_assoc, append-nil}
use Rattle.std.specs.List.{AllZip, AllByRecursion, flat_map}
use Rattle.lb_base.specs.declared.value.Value.{Value}
use Rattle.lb_base.specs.declared.value.Value.TheVariants as values
use Rattle.lb_base.specs.declared.truth.Truth.{Truth}
use Rattle.lb_base.specs.Conditions.{is_same_row}
use Rattle.lb_base.specs.Evaluated.{Evaluated, ◌>>=◌, each, passing}
use Rattle.lb_base.specs.Truths.{is_true}
use Rattle.lb_tree.specs.declared.query.Column.{Column}
use Rattle.lb_tree.specs.declared.query.Tab.{Tab}
use Rattle.lb_names.specs.Sights.{Name, or_name, correlation}
use Rattle.lb_names.specs.Marks.{JoinMarks, ChainMarks, tables_of_chain, tables_of}
use Rattle.lb_names.specs.Scopes.{Field, Catalogue, columns_of}
use Rattle.lb_mean.specs.Setting.{Setting, SeenColumn, Piece, JoinedRow, Env, row_frame, given}
use Rattle.lb_mean.specs.Environment.{column_value}
use Rattle.lb_mean.specs.Meant as meant
use Rattle.lb_mean.specs.Joined.{piece, rows_seen, pieces, null_piece, beside, if_true, matches, or_nulls, inner, left, cross, follow, continued, joined_with, chain, in_front, joined}
use Rattle.lb_mean.specs.Queries.{one_more, kept, Keyed, Group, gather, gathered, keyed, first_row}
use Rattle.lb_kinds.specs.HasKind.{Policies, IfResult}
use Rattle.lb_kinds.specs.Agreement.{SameName, RowFits, CellsFit, AgreesOn}
use Rattle.lb_kinds.specs.Standing.{PieceFits, JoinedFits}
use Rattle.lb_kinds.proofs.Values.{null_fits}

-- ---- lists

pub all_first : {A : Type 0} (P : A → Type 0) (xs ys : List A) → AllByRecursion P xs → AllByRecursion P ys → AllByRecursion P (xs ++ ys)
all_first P [] ys g h = h
all_first P (x ∷ xs) ys g h = (g.0, all_first P xs ys g.1 h)

pub all_flat : {A B : Type 0} (P : A → Type 0) (Q : B → Type 0) (f : A → List B) (xs : List A) → ((x : A) → P x → AllByRecursion Q (f x)) → AllByRecursion P xs → AllByRecursion Q (flat_map f xs)
all_flat P Q f [] h g = tt
all_flat P Q f (x ∷ xs) h g = all_first Q (f x) (flat_map f xs) (h x g.0) (all_flat P Q f xs h g.1)

pub all_mapped : {A B : Type 0} (P : A → Type 0) (Q : B → Type 0) (f : A → B) (xs : List A) → ((x : A) → P x → Q (f x)) → AllByRecursion P xs → AllByRecursion Q (map f xs)
all_mapped P Q f [] h g = tt
all_mapped P Q f (x ∷ xs) h g = (h x g.0, all_mapped P Q f xs h g.1)

pub zip_first : {A B : Type 0} (R : A → B → Type 0) (as₁ : List A) (bs : List B) (cs : List A) (ds : List B) → AllZip R as₁ bs → AllZip R cs ds → AllZip R (as₁ ++ cs) (bs ++ ds)
zip_first R [] [] cs ds g h = h
zip_first R [] (b ∷ bs) cs ds g h = absurd g
zip_first R (a ∷ as₁) [] cs ds g h = absurd g
zip_first R (a ∷ as₁) (b ∷ bs) cs ds g h = (g.0, zip_first R as₁ bs cs ds g.1 h)

-- all results of an evaluation have it
abbrev pub GivesAll : {A : Type 0} → (A → Type 0) → Evaluated (List A) → Type 0
GivesAll P (Ok xs) = AllByRecursion P xs
GivesAll P (Err fault) = Unit {0}

pub all_then : {A B : Type 0} (P : A → Type 0) (Q : B → Type 0) (x : Evaluated (List A)) (f : List A → Evaluated (List B)) → GivesAll P x → ((xs : List A) → AllByRecursion P xs → GivesAll Q (f xs)) → GivesAll Q (x >>= f)
all_then P Q (Ok xs) f g h = h xs g
all_then P Q (Err fault) f g h = tt

pub any_then : {A B : Type 0} (Q : B → Type 0) (x : Evaluated A) (f : A → Evaluated (List B)) → ((a : A) → GivesAll Q (f a)) → GivesAll Q (x >>= f)
any_then Q (Ok a) f h = h a
any_then Q (Err fault) f h = tt

-- ---- the rows of one table

module _ (C : Catalogue) (S : Setting) (agrees : AgreesOn C S) where
  given_fits : (policies : Policies) (fields : List Field) (row : List Value) → RowFits policies fields row → CellsFit policies fields (given row)
  given_fits policies [] [] h = tt
  given_fits policies [] (v ∷ row) h = absurd h
  given_fits policies (f ∷ fields) [] h = absurd h
  given_fits policies (f ∷ fields) (v ∷ row) h = (h.0, given_fits policies fields row h.1)

  nulls_fit : (policies : Policies) (fields : List Field) (columns : List SeenColumn) → AllZip SameName fields columns → RowFits policies fields (map (λ c. values.Null) columns)
  nulls_fit policies [] [] h = tt
  nulls_fit policies [] (c ∷ columns) h = absurd h
  nulls_fit policies (f ∷ fields) [] h = absurd h
  nulls_fit policies (f ∷ fields) (c ∷ columns) h = (null_fits policies f.kind, nulls_fit policies fields columns h.1)

  same_call : (o : Option Name) (n : Name) → unwrap_or o n ≡ or_name o n
  same_call None n = refl
  same_call (Some m) n = refl

  piece_fits : (tab : Tab) (vs : List Value) → RowFits S.policies (columns_of C tab) vs → PieceFits C S tab (piece (S.sources tab.table) (correlation tab) vs)
  piece_fits tab vs h = record {
    correlation = same_call tab.correlation tab.table;
    columns = refl;
    cells = given_fits S.policies (columns_of C tab) vs h;
    shown = (agrees.tables tab.table).shown vs h;
  }

  rows_fit : (tab : Tab) (x : Evaluated (List (List Value))) → (S.sources tab.table).rows ≡ x → AllByRecursion (RowFits S.policies (columns_of C tab)) (rows_seen x)
  rows_fit tab (Ok rows) e = (agrees.tables tab.table).rows rows e
  rows_fit tab (Err fault) e = tt

  pieces_fit : (tab : Tab) → AllByRecursion (PieceFits C S tab) (pieces (S.sources tab.table) tab)
  pieces_fit tab = all_mapped (RowFits S.policies (columns_of C tab)) (PieceFits C S tab) (piece (S.sources tab.table) (correlation tab)) (rows_seen (S.sources tab.table).rows) (piece_fits tab) (rows_fit tab (S.sources tab.table).rows refl)

  -- ---- joins

  abbrev pub Fits : List Tab → JoinedRow → Type 0
  Fits tabs = JoinedFits C S tabs

  abbrev pub OkFits : List Tab → Evaluated JoinedRow → Type 0
  OkFits tabs x = IfResult (Fits tabs) x

  beside_fits : (tabs : List Tab) (row : JoinedRow) (tab : Tab) (p : Piece) → Fits tabs row → PieceFits C S tab p → Fits (tabs ++ tab ∷ []) (beside row p)
  beside_fits tabs row tab p g h = zip_first (PieceFits C S) tabs row (tab ∷ []) (p ∷ []) g (h, tt)

  true_fits : (tabs : List Tab) (row : JoinedRow) (t : Evaluated Truth) → Fits tabs row → AllByRecursion (OkFits tabs) (if_true row t)
  true_fits tabs row (Err fault) h = (tt, tt)
  true_fits tabs row (Ok t) h = go (is_true t)
    where
      go : (b : Bool) → AllByRecursion (OkFits tabs) (if b then Ok row ∷ [] else [])
      go true = (h, tt)
      go false = tt

  matches_fit : (tabs : List Tab) (row : JoinedRow) (tab : Tab) (on : meant.Says) (env : Env) → Fits tabs row → AllByRecursion (OkFits (tabs ++ tab ∷ [])) (matches on env row (pieces (S.sources tab.table) tab))
  matches_fit tabs row tab on env h =
      all_flat (PieceFits C S tab) (OkFits (tabs ++ tab ∷ [])) (λ p. if_true (beside row p) (on.test (row_frame (beside row p) ∷ env))) (pieces (S.sources tab.table) tab)
      (λ p g. true_fits (tabs ++ tab ∷ []) (beside row p) (on.test (row_frame (beside row p) ∷ env)) (beside_fits tabs row tab p h g)) (pieces_fit tab)

  or_nulls_fit : (tabs : List Tab) (nulls : JoinedRow) (rows : List (Evaluated JoinedRow)) → Fits tabs nulls → AllByRecursion (OkFits tabs) rows → AllByRecursion (OkFits tabs) (or_nulls nulls rows)
  or_nulls_fit tabs nulls [] g h = (g, tt)
  or_nulls_fit tabs nulls (x ∷ rows) g h = h

  -- a join continues each row by a row of its table
  abbrev pub JoinLaw : Tab → meant.Joins → Type 0
  JoinLaw tab w = (tabs : List Tab) (env : Env) (row : JoinedRow) → Fits tabs row → AllByRecursion (OkFits (tabs ++ tab ∷ [])) (w.rows env row)

  pub inner_law : (tab : Tab) (on : meant.Says) → JoinLaw tab (inner (S.sources tab.table) tab on)
  inner_law tab on tabs env row h = matches_fit tabs row tab on env h

  pub left_law : (tab : Tab) (on : meant.Says) → JoinLaw tab (left (S.sources tab.table) tab on)
  left_law tab on tabs env row h =
      or_nulls_fit (tabs ++ tab ∷ []) (beside row (null_piece (S.sources tab.table) tab)) (matches on env row (pieces (S.sources tab.table) tab))
      (beside_fits tabs row tab (null_piece (S.sources tab.table) tab) h (piece_fits tab (map (λ c. values.Null) (S.sources tab.table).columns) (nulls_fit S.policies (columns_of C tab) (S.sources tab.table).columns (agrees.tables tab.table).columns)))
      (matches_fit tabs row tab on env h)

  pub cross_law : (tab : Tab) → JoinLaw tab (cross (S.sources tab.table) tab)
  cross_law tab tabs env row h = all_mapped (PieceFits C S tab) (OkFits (tabs ++ tab ∷ [])) (λ p. Ok (beside row p)) (pieces (S.sources tab.table) tab) (λ p g. beside_fits tabs row tab p h g) (pieces_fit tab)

  -- ---- chains

  follow_fits : (tabs more : List Tab) (step : JoinedRow → List (Evaluated JoinedRow)) → ((row : JoinedRow) → Fits tabs row → AllByRecursion (OkFits more) (step row)) → (x : Evaluated JoinedRow) → OkFits tabs x → AllByRecursion (OkFits more) (follow step x)
  follow_fits tabs more step h (Ok row) g = h row g
  follow_fits tabs more step h (Err fault) g = (tt, tt)

  continued_fits : (tabs more : List Tab) (step : JoinedRow → List (Evaluated JoinedRow)) → ((row : JoinedRow) → Fits tabs row → AllByRecursion (OkFits more) (step row)) → (rows : List (Evaluated JoinedRow)) → AllByRecursion (OkFits tabs) rows → AllByRecursion (OkFits more) (continued step rows)
  continued_fits tabs more step h rows g = all_flat (OkFits tabs) (OkFits more) (follow step) rows (follow_fits tabs more step h) g

  -- joins, each with its table
  abbrev pub JoinsLaw : List JoinMarks → List meant.Joins → Type 0
  JoinsLaw ms ws = AllZip (λ m w. JoinLaw m.tab w) ms ws

  joins_fit : (ms : List JoinMarks) (ws : List meant.Joins) (env : Env) (tabs : List Tab) (rows : List (Evaluated JoinedRow)) → JoinsLaw ms ws → AllByRecursion (OkFits tabs) rows
      → AllByRecursion (OkFits (tabs ++ map (λ j. j.tab) ms)) (fold (joined_with env) rows ws)
  joins_fit [] [] env tabs rows h g = subst (λ t. AllByRecursion (OkFits t) rows) (sym (append-nil tabs)) g
  joins_fit [] (w ∷ ws) env tabs rows h g = absurd h
  joins_fit (m ∷ ms) [] env tabs rows h g = absurd h
  joins_fit (m ∷ ms) (w ∷ ws) env tabs rows h g =
      subst (λ t. AllByRecursion (OkFits t) (fold (joined_with env) (joined_with env rows w) ws)) (append_assoc tabs (m.tab ∷ []) (map (λ j. j.tab) ms))
      (joins_fit ms ws env (tabs ++ m.tab ∷ []) (joined_with env rows w) h.1 (continued_fits tabs (tabs ++ m.tab ∷ []) (w.rows env) (h.0 tabs env) rows g))

  -- a chain gives rows with a row of each of its tables
  abbrev pub ChainLaw : ChainMarks → meant.Chains → Type 0
  ChainLaw m w = (env : Env) → AllByRecursion (OkFits (tables_of_chain m)) (w.rows env)

  pub chain_law : (first : Tab) (ms : List JoinMarks) (ws : List meant.Joins) → JoinsLaw ms ws → ChainLaw (record { first = first; joins = ms }) (chain (S.sources first.table) first ws)
  chain_law first ms ws h env =
      joins_fit ms ws env (first ∷ []) (map (λ p. Ok (p ∷ [])) (pieces (S.sources first.table) first)) h
      (all_mapped (PieceFits C S first) (OkFits (first ∷ [])) (λ p. Ok (p ∷ [])) (pieces (S.sources first.table) first) (λ p g. (g, tt)) (pieces_fit first))

  -- ---- FROM

  front_fits : (tabs more : List Tab) (row : JoinedRow) → Fits tabs row → (x : Evaluated JoinedRow) → OkFits more x → OkFits (tabs ++ more) (in_front row x)
  front_fits tabs more row h (Ok other) g = zip_first (PieceFits C S) tabs row more other h g
  front_fits tabs more row h (Err fault) g = tt

  pub joined_fits : (ms : List ChainMarks) (ws : List meant.Chains) (env : Env) → AllZip ChainLaw ms ws → AllByRecursion (OkFits (tables_of ms)) (joined ws env)
  joined_fits [] [] env h = (tt, tt)
  joined_fits [] (w ∷ ws) env h = absurd h
  joined_fits (m ∷ ms) [] env h = absurd h
  joined_fits (m ∷ ms) (w ∷ ws) env h =
      continued_fits (tables_of_chain m) (tables_of (m ∷ ms)) (λ row. map (in_front row) (joined ws env))
      (λ row g. all_mapped (OkFits (tables_of ms)) (OkFits (tables_of (m ∷ ms))) (in_front row) (joined ws env) (front_fits (tables_of_chain m) (tables_of ms) row g) (joined_fits ms ws env h.1))
      (w.rows env) (h.0 env)

-- ---- WHERE, GROUP BY and HAVING leave rows as they are

module _ {A : Type 0} (P : A → Type 0) where
  more_kept : (x : A) (rest : ℕ → Evaluated (List A)) (n : ℕ) → P x → ((k : ℕ) → GivesAll P (rest k)) → GivesAll P (one_more x rest n)
  more_kept x rest zero g h = tt
  more_kept x rest (suc n) g h = all_then P P (rest n) (λ xs. Ok (x ∷ xs)) (h n) (λ xs i. (g, i))

  kept_step : (b : Bool) (x : A) (rest : ℕ → Evaluated (List A)) (n : ℕ) → P x → ((k : ℕ) → GivesAll P (rest k)) → GivesAll P (if b then one_more x rest n else rest n)
  kept_step true x rest n g h = more_kept x rest n g h
  kept_step false x rest n g h = h n

  pub kept_all : (test : A → Evaluated Bool) (rows : List (Evaluated A)) (n : ℕ) → AllByRecursion (IfResult P) rows → GivesAll P (kept test rows n)
  kept_all test [] n h = tt
  kept_all test (Err fault ∷ rows) n h = tt
  kept_all test (Ok x ∷ rows) n h = any_then P (test x) (λ b. if b then one_more x (kept test rows) n else kept test rows n) (λ b. kept_step b x (kept test rows) n h.0 (λ k. kept_all test rows k h.1))

  pub passing_all : (test : A → Evaluated Bool) (xs : List A) → AllByRecursion P xs → GivesAll P (passing test xs)
  passing_all test [] h = tt
  passing_all test (x ∷ xs) h = any_then P (test x) (λ b. passing test xs >>= λ rest. Ok (if b then x ∷ rest else rest))
      (λ b. all_then P P (passing test xs) (λ rest. Ok (if b then x ∷ rest else rest)) (passing_all test xs h.1) (go b))
    where
      go : (b : Bool) (rest : List A) → AllByRecursion P rest → AllByRecursion P (if b then x ∷ rest else rest)
      go true rest g = (h.0, g)
      go false rest g = g

-- ---- groups

module _ (P : JoinedRow → Type 0) where
  abbrev RowHas : Keyed → Type 0
  RowHas x = P x.row

  -- the first row of a group and all of them
  abbrev pub GroupHas : Group → Type 0
  GroupHas g = P (first_row g.rows) × AllByRecursion P g.rows

  pub keys_all : (columns : List Column) (env : Env) (rows : List JoinedRow) → AllByRecursion P rows → GivesAll RowHas (each (map (keyed columns env) rows))
  keys_all columns env [] h = tt
  keys_all columns env (r ∷ rows) h = go (each (map (λ c. column_value c (row_frame r ∷ env)) columns)) (each (map (keyed columns env) rows)) (keys_all columns env rows h.1)
    where
      go : (key : Evaluated (List Value)) (rest : Evaluated (List Keyed)) → GivesAll RowHas rest → GivesAll RowHas ((key >>= λ k. Ok (record { key = k; row = r })) >>= λ x. rest >>= λ xs. Ok (x ∷ xs))
      go (Err fault) rest g = tt
      go (Ok k) (Err fault) g = tt
      go (Ok k) (Ok xs) g = (h.0, g)

  first_stays : (rows : List JoinedRow) (row : JoinedRow) → P row → P (first_row rows) → P (first_row (rows ++ row ∷ []))
  first_stays [] row g h = g
  first_stays (r ∷ rows) row g h = h

  gather_step : (b : Bool) (g : Group) (gs rest : List Group) (x : Keyed) → GroupHas g → AllByRecursion GroupHas gs → AllByRecursion GroupHas rest → RowHas x
      → AllByRecursion GroupHas (if b then record { key = g.key; rows = g.rows ++ (x.row ∷ []) } ∷ gs else g ∷ rest)
  gather_step true g gs rest x h i j k = ((first_stays g.rows x.row k h.0, all_first P g.rows (x.row ∷ []) h.1 (k, tt)), i)
  gather_step false g gs rest x h i j k = (h, j)

  gather_all : (gs : List Group) (x : Keyed) → AllByRecursion GroupHas gs → RowHas x → AllByRecursion GroupHas (gather gs x)
  gather_all [] x h k = ((k, (k, tt)), tt)
  gather_all (g ∷ gs) x h k = gather_step (is_same_row g.key x.key) g gs (gather gs x) x h.0 h.1 (gather_all gs x h.1 k) k

  gathered_from : (gs : List Group) (xs : List Keyed) → AllByRecursion GroupHas gs → AllByRecursion RowHas xs → AllByRecursion GroupHas (fold gather gs xs)
  gathered_from gs [] h g = h
  gathered_from gs (x ∷ xs) h g = gathered_from (gather gs x) xs (gather_all gs x h g.0) g.1

  pub gathered_all : (xs : List Keyed) → AllByRecursion RowHas xs → AllByRecursion GroupHas (gathered xs)
  gathered_all xs h = gathered_from [] xs tt h
