-- Own columns of queries.
use Rattle.std.proofs.Common.{ℕ, ◌≡◌, refl, ap, sym, ◌∙◌, List, [], ◌∷◌, ◌++◌, Bool, true, false, ◌&&◌, map}
use Rattle.std.specs.Option.{option_map}
use Rattle.std.proofs.lemmas.List.Folds.{list_all-append}
use Rattle.lb_tree.specs.declared.query.Chain.{Chain}
use Rattle.lb_tree.specs.declared.query.Query.{Query}
use Rattle.lb_tree.specs.declared.query.Tab.{Tab}
use Rattle.lb_tree.specs.declared.query.Cond.TheViews.{out-Query}
use Rattle.lb_tree.specs.Folds as folds
use Rattle.lb_names.specs.Sights.{Name, Sight, inside, inside_on, calls_of, correlation}
use Rattle.lb_names.specs.Marks.{Marks, JoinMarks, ChainMarks, marked, mark_steps, tables_of, tables_of_chain, joins_marks, chains_marks, of_each, of_any, column}
use Rattle.lb_names.specs.Scopes.{Catalogue}
use Rattle.lb_names.specs.Passes.{all_own, is_own}
use Rattle.lb_names.specs.Carriers.{chain_marked, Says, Shows, Answers}
use Rattle.lb_names.specs.Typing.{says, shows, chains, answers}
use Rattle.lb_names.proofs.Carried.{carried_chain}
use Rattle.lb_walk.specs.Opened.{chain_of, own_joins, own_chains}
use Rattle.lb_walk.proofs.Opens.{chains_out, answers_out}

module _ (C : Catalogue) where
  chain_path : (c : Chain) → chain_marked (chain_of C c) ≡ folds.chain_of marked mark_steps c
  unfolding chains
  chain_path c = ap chain_marked (sym (chains_out C c)) ∙ carried_chain C c

  chains_path : (cs : List Chain) → map chain_marked (map (chain_of C) cs) ≡ map (folds.chain_of marked mark_steps) cs
  chains_path [] = refl
  chains_path (c ∷ cs) = λ i. chain_path c i ∷ chains_path cs i

  -- the tables of FROM are those of the marks
  pub tables_are : (cs : List Chain) → tables_of (map chain_marked (map (chain_of C) cs)) ≡ tables_of (map (folds.chain_of marked mark_steps) cs)
  tables_are cs = ap (λ chains. tables_of chains) (chains_path cs)

  module _ (level : ℕ) where
    pub split : (xs ys : Marks) → all_own C level (xs ++ ys) ≡ (all_own C level xs && all_own C level ys)
    split xs ys = list_all-append (is_own C level) xs ys

    joins_are : (outer : Sight) (all before : List Name) (tabs : List Tab) (js : List JoinMarks) → all_own C level (joins_marks outer all before tabs js) ≡ own_joins C level outer all tabs js
    joins_are outer all before tabs [] = refl
    joins_are outer all before tabs (j ∷ js) = split (j.on (inside_on outer all (tabs ++ j.tab ∷ []))) (joins_marks outer all (before ++ correlation j.tab ∷ []) (tabs ++ j.tab ∷ []) js)
        ∙ ap (λ b. all_own C level (j.on (inside_on outer all (tabs ++ j.tab ∷ []))) && b) (joins_are outer all (before ++ correlation j.tab ∷ []) (tabs ++ j.tab ∷ []) js)

    chains_are : (outer : Sight) (all before : List Name) (cs : List ChainMarks) → all_own C level (chains_marks outer all before cs) ≡ own_chains C level outer all cs
    chains_are outer all before [] = refl
    chains_are outer all before (ch ∷ cs) = split (joins_marks outer all (before ++ correlation ch.first ∷ []) (ch.first ∷ []) ch.joins) (chains_marks outer all (before ++ calls_of (tables_of_chain ch)) cs)
        ∙ (λ i. joins_are outer all (before ++ correlation ch.first ∷ []) (ch.first ∷ []) ch.joins i && chains_are outer all (before ++ calls_of (tables_of_chain ch)) cs i)

    parts : (i f w g h : Marks) → all_own C level (i ++ (f ++ (w ++ (g ++ h)))) ≡ (all_own C level i && (all_own C level f && (all_own C level w && (all_own C level g && all_own C level h))))
    parts i f w g h = split i (f ++ (w ++ (g ++ h))) ∙ ap (λ b. all_own C level i && b) (split f (w ++ (g ++ h)) ∙ ap (λ b. all_own C level f && b) (split w (g ++ h) ∙ ap (λ b. all_own C level w && b) (split g h)))

    -- the columns of a query whose clauses see that are those of its parts
    pub query_is_own : (x : Query) (v u : Sight) → u ≡ inside v (tables_of (map (folds.chain_of marked mark_steps) (out-Query x).from))
        → all_own C level ((answers C x).marks v)
        ≡ (all_own C level (of_each (λ (m : Shows). m.marks) (map (shows C) (out-Query x).items) u)
        && (own_chains C level v (calls_of (tables_of (map (folds.chain_of marked mark_steps) (out-Query x).from))) (map chain_marked (map (chain_of C) (out-Query x).from))
        && (all_own C level (of_any (λ (m : Says). m.marks) (option_map (says C) (out-Query x).filter) u)
        && (all_own C level (map (column u.seen) (out-Query x).group)
        && all_own C level (of_any (λ (m : Says). m.marks) (option_map (says C) (out-Query x).having) u)))))
    query_is_own x v u h =
        ap (λ (a : Answers). all_own C level (a.marks v)) (answers_out C x)
        ∙ ap (λ tabs. marks_over x v (inside v tabs) tabs) (tables_are (out-Query x).from)
        ∙ ap (λ w. marks_over x v w (tables_of (map (folds.chain_of marked mark_steps) (out-Query x).from))) (sym h)
        ∙ parts (of_each (λ (m : Shows). m.marks) (map (shows C) (out-Query x).items) u) (chains_marks v (calls_of (tables_of (map (folds.chain_of marked mark_steps) (out-Query x).from))) [] (map chain_marked (map (chain_of C) (out-Query x).from))) (of_any (λ (m : Says). m.marks) (option_map (says C) (out-Query x).filter) u) (map (column u.seen) (out-Query x).group) (of_any (λ (m : Says). m.marks) (option_map (says C) (out-Query x).having) u)
        ∙ ap (λ f. all_own C level (of_each (λ (m : Shows). m.marks) (map (shows C) (out-Query x).items) u) && (f && (all_own C level (of_any (λ (m : Says). m.marks) (option_map (says C) (out-Query x).filter) u) && (all_own C level (map (column u.seen) (out-Query x).group) && all_own C level (of_any (λ (m : Says). m.marks) (option_map (says C) (out-Query x).having) u)))))
        (chains_are v (calls_of (tables_of (map (folds.chain_of marked mark_steps) (out-Query x).from))) [] (map chain_marked (map (chain_of C) (out-Query x).from)))
      where
        marks_over : Query → Sight → Sight → List Tab → Bool
        marks_over x v u tabs = all_own C level (of_each (λ (m : Shows). m.marks) (map (shows C) (out-Query x).items) u ++ (chains_marks v (calls_of tabs) [] (map chain_marked (map (chain_of C) (out-Query x).from)) ++ (of_any (λ (m : Says). m.marks) (option_map (says C) (out-Query x).filter) u ++ (map (column u.seen) (out-Query x).group ++ of_any (λ (m : Says). m.marks) (option_map (says C) (out-Query x).having) u))))

    -- the joins after the first one, and none where that one isn't own
    pub join_step : (outer : Sight) (all : List Name) (tabs more : List Tab) (j : JoinMarks) (js : List JoinMarks) → more ≡ tabs ++ j.tab ∷ [] → true ≡ all_own C level (j.on (inside_on outer all more))
        → own_joins C level outer all tabs (j ∷ js) ≡ own_joins C level outer all more js
    join_step outer all tabs more j js h k = (λ i. all_own C level (j.on (inside_on outer all (sym h i))) && own_joins C level outer all (sym h i) js) ∙ ap (λ b. b && own_joins C level outer all more js) (sym k)

    pub join_stop : (outer : Sight) (all : List Name) (tabs more : List Tab) (j : JoinMarks) (js : List JoinMarks) → more ≡ tabs ++ j.tab ∷ [] → false ≡ all_own C level (j.on (inside_on outer all more))
        → own_joins C level outer all tabs (j ∷ js) ≡ false
    join_stop outer all tabs more j js h k = (λ i. all_own C level (j.on (inside_on outer all (sym h i))) && own_joins C level outer all (sym h i) js) ∙ ap (λ b. b && own_joins C level outer all more js) (sym k)
