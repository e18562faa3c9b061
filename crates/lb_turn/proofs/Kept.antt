-- Each kind of step keeps the rule of the turn, and tells what `specs/Steps.antt` says. The answers of the functions of `steps.rt` cite these lemmas.
use Rattle.std.proofs.Common.{◌≡◌, ◌≢◌, inl, inr, ⊎_elim, ℕ, zero, suc, ◌+◌, ◌-◌, ◌%◌, ◌^◌, ◌<◌, ◌≤◌, List, [], ◌∷◌, ◌++◌, length, set, drop, Option, Some, None, IsSome, refl, sym, ap, ◌∙◌, subst, arith, length-append, eq-eqb, ◌==◌, length-set, slice_index, lt_of_not-le}
use Rattle.std.specs.List.{Contains}
use Rattle.std.proofs.lemmas.List.Elements.{Contains-append_left, Contains-append_right, Contains-append_cases}
use mathlib.Core.Logic.{dite}
use mathlib.Core.Option.{Option as Maybe, some, none, some-ne-none, some-injective}
use native.Mathlib.Decide.{ℕ_discrete, dec_le}
use lib.ListN.{get_elem?}
use prog.Atomic.{either}
use Rattle.std.proofs.Math.Nat.{mod-add-mod}
use Rattle.std.proofs.lemmas.Nat.{mod_below}
use Rattle.atomic_table.specs.Table.{State, Me, step, keeps, takes, gives, opening, Allows, Splits, Joins, Final, Seen}
use Rattle.atomic_table.proofs.Lists.{at_set, set_else, set_again, at_longer, at_last, at_snoc}
use Rattle.lb_turn.specs.declared.rule.Role.{Role}
use Rattle.lb_turn.specs.declared.rule.Role.TheVariants.{Idle, Waits, Turns}
use Rattle.lb_turn.specs.declared.rule.Known.{Known}
use Rattle.lb_turn.specs.declared.rule.View.{View}
use Rattle.lb_turn.specs.Known.{known, nothing, united, IsKnown, IsWhole, Grows, Belongs, Divides, all_parts}
use Rattle.lb_turn.specs.Rule.{ticketed, HasTicket, IsStill, IsPlaced, IsPlacedAs, starting, spent_view, out, Owns, AreOwned, IsSeated, Turned}
use Rattle.lb_turn.specs.Steps.{Draws, Looks, Counts, Merges, Records, PassesOn, kept_view, given_view, joined_view}
use Rattle.lb_turn.proofs.Places.{not_in_none, in_one, is_one, prefix_length, known_nothing, known_whole, below_log, grows_whole, grows_left, grows_right, known_united, known_recorded, known_beside, prefix_same}
use Rattle.lb_turn.proofs.Dividing.{known_kept, known_given}
use Rattle.lb_turn.proofs.Queue.{get_below, rest_length, first_out, placed_more, all_still, placed_beside, placed_nearer, out_kept, out_longer, out_drawn, out_passed}
use Rattle.lb_turn.proofs.Views.{out_set, shares_set, shares_snoc, out_snoc, out_le, parts_at_most, two_at_most, same_view, set_there, each_set, disjoint_set, owned_set, disjoint_split, owned_split, disjoint_join, owned_join}

abbrev ticket_of : Role → ℕ
ticket_of Idle = 0
ticket_of (Waits t) = t
ticket_of (Turns t) = t

still_without : (r : Role) → ticketed r ≤ 0 → IsStill r
still_without Idle h = tt
still_without (Waits t) h = tt
still_without (Turns t) h = absurd (omega arith)

module _ {S N : Type 0} (history : S → List N) (root : List N → ℕ → ℕ) (number : S → ℕ) (key : ℕ) where
  abbrev Rule : State (Option S) (View N) → Type 0
  Rule = Turned history root number key

  abbrev Seated : ℕ → List ℕ → List N → ℕ → View N → Type 0
  Seated = IsSeated root key

  -- the state is out while a seat has its turn
  held : (vs : List (View N)) (id t : ℕ) (v w : View N) → get_elem? vs id ≡ some v → w.role ≡ Turns t → ((j : ℕ) (u : View N) → get_elem? (set vs id w) j ≡ some u → IsStill u.role) → ⊥
  held vs id t v w at turns still = subst IsStill turns (still id w (set_there vs id v w at))

  -- the views of the others, and an idle one, are still
  still_set : (vs : List (View N)) (id : ℕ) (v w : View N) → get_elem? vs id ≡ some v → v.role ≡ Idle → ((j : ℕ) (u : View N) → get_elem? (set vs id w) j ≡ some u → IsStill u.role)
      → (j : ℕ) (u : View N) → get_elem? vs j ≡ some u → IsStill u.role
  still_set vs id v w at idle still j u e = dite (ℕ_discrete j id)
      (λ same. subst IsStill (sym (ap (λ x. x.role) (same_view vs id j v u at e same) ∙ idle)) tt)
      (λ apart. still j u (set_else vs id j w apart ∙ e))

  few : (s : State (Option S) (View N)) (h : Rule s) → length h.queue ≤ all_parts
  few s h = omega (arith, out_le s.views (λ i u e. (h.each i u e).live), h.counted, h.whole)

  owns_below : (served : ℕ) (queue : List ℕ) (log : List N) (seat : ℕ) (u : View N) → Seated served queue log seat u → (place : ℕ) → Owns u place → place < length log
  owns_below served queue log seat u h place o = ⊎_elim
      (λ c. omega (arith, h.known.below place c, prefix_length u.known.seen log h.known.seen))
      (λ c. omega (arith, h.other.below place c, prefix_length u.other.seen log h.other.seen))
      o

  -- who has all parts owns each place of the history, and so has seen it whole
  whole_of : (s : State (Option S) (View N)) (h : Rule s) (id : ℕ) (v : View N) → get_elem? s.views id ≡ some v → v.parts ≡ all_parts → v.other ≡ nothing → IsWhole v.known h.log
  whole_of s h id v at all alone =
      let was = h.each id v at in
      let mine : (place : ℕ) → place < length h.log → Contains v.known.own place = λ place lt.
      let o = h.owned place lt in
      dite (ℕ_discrete o.0 id)
      (λ same. ⊎_elim
      (λ c. c)
      (λ c. absurd (not_in_none place (subst (λ k. Contains k.own place) alone c)))
      (subst (λ u. Owns u place) (same_view s.views id o.0 v o.1 at o.2 same) o.3))
      (λ apart. absurd (omega (arith, (h.each o.0 o.1 o.2).owner place o.3, two_at_most s.views id o.0 v o.1 apart at o.2, h.whole))) in
      let short : length h.log ≤ length v.known.seen = dite (dec_le (length h.log) (length v.known.seen))
      (λ le. le)
      (λ more. let low = was.known.below (length v.known.seen) (mine (length v.known.seen) (lt_of_not-le more)) in absurd (omega arith)) in
      record { seen = prefix_same v.known.seen h.log was.known.seen short; own = λ place. (mine place, below_log root h.log v.known was.known place) }

  pub draws : (id : ℕ) (me : Me (Option S) (View N)) → me.0.role ≡ Idle → 0 < me.0.parts → Allows Rule 1 id me 0 (λ n. (n + 1) % 2 ^ 64) (Draws (step 1 0 1 0 none) me)
  draws id me idle some_part s h homes at fits =
      let v = me.0 in
      let found : slice_index s.words 0 ≡ h.ticket = ap (λ ws. slice_index ws 0) h.words in
      let w = record v { role = Waits (slice_index s.words 0) } in
      let none_yet : ticketed v.role ≡ 0 = ap ticketed idle in
      let was = h.each id v at in
      let more : out (set s.views id w) + ticketed v.role ≡ out s.views + 1 = out_set s.views id v w at in (
        w,
        keeps,
        tt,
        record {
          ticket = (h.ticket + 1) % 2 ^ 64;
          served = h.served;
          log = h.log;
          queue = h.queue ++ id ∷ [];
          words = ap (λ ws. set ws 0 ((slice_index ws 0 + 1) % 2 ^ 64)) h.words;
          served_fits = h.served_fits;
          drawn = ap (λ t. (t + 1) % 2 ^ 64) h.drawn ∙ (mod-add-mod (h.served + length h.queue) (2 ^ 64) 1 ∙ ap (λ k. k % 2 ^ 64) (omega (arith, length-append h.queue (id ∷ []))));
          counted = omega (arith, more, none_yet, h.counted, length-append h.queue (id ∷ []));
          tickets = out_drawn h.served h.queue s.views id v w at idle (found ∙ h.drawn) h.tickets;
          each = each_set (Seated h.served (h.queue ++ id ∷ []) h.log) s.views id w
              (record { placed = (length h.queue, (at_last h.queue id (length h.queue) refl, found ∙ h.drawn)); known = was.known; other = was.other; number = was.number; live = some_part; part = was.part; owner = was.owner })
              (λ j u apart e. let k = h.each j u e in record { placed = placed_more h.served h.queue h.log j id u u.role k.placed; known = k.known; other = k.other; number = k.number; live = k.live; part = k.part; owner = k.owner });
          disjoint = disjoint_set s.views id v w at (λ place o. inl o) h.disjoint;
          owned = owned_set s.views id (length h.log) v w at (λ place o. o) h.owned;
          whole = omega (arith, shares_set s.views id v w at, h.whole);
          slots = h.slots;
          home = λ still. h.home (still_set s.views id v w at idle still);
        },
        (refl, refl),
      )

  pub looks : (id t : ℕ) (me : Me (Option S) (View N)) → me.0.role ≡ Waits t → Allows Rule 1 id me 1 (λ n. n) (Looks history root number (step 1 1 0 0 none) me)
  looks id t me waits s h homes at fits =
      let v = me.0 in
      let found : slice_index s.words 1 ≡ h.served = ap (λ ws. slice_index ws 1) h.words in
      let kept : set s.words 1 (slice_index s.words 1) ≡ s.words = subst (λ ws. set ws 1 (slice_index ws 1) ≡ ws) (sym h.words) refl in
      let was = h.each id v at in
      let knows : (k : ℕ) × IsPlaced h.served h.queue id t k = subst (IsPlacedAs h.served h.queue h.log id v) waits was.placed in
      dite (ℕ_discrete (slice_index s.words 1) t)
      (λ hit.
      let below : knows.0 < length h.queue = get_below h.queue knows.0 id knows.1.0 in
      let zero_th : knows.0 ≡ 0 = first_out h.served knows.0 t h.served_fits (omega (arith, few s h)) knows.1.1 (sym found ∙ hit) in
      let first : get_elem? h.queue 0 ≡ some id = subst (λ k. get_elem? h.queue k ≡ some id) zero_th knows.1.0 in
      let mine : t ≡ (h.served + 0) % 2 ^ 64 = subst (λ k. t ≡ (h.served + k) % 2 ^ 64) zero_th knows.1.1 in
      let home = h.home (λ j u e. all_still h.served h.queue h.log id j v u u.role refl first (same_view s.views id j v u at e) (subst IsStill (sym waits) tt) (h.each j u e).placed) in
      let x = home.0 in
      let w = record v { role = Turns t; known = known (history x) v.known.own } in
      let one : ticketed v.role ≡ 1 = ap ticketed waits in
      let more : out (set s.views id w) + ticketed v.role ≡ out s.views + 1 = out_set s.views id v w at in (
        w,
        takes 0 (Some x),
        ap (λ hs. get_elem? hs 0) home.1,
        record {
          ticket = h.ticket;
          served = h.served;
          log = h.log;
          queue = h.queue;
          words = kept ∙ h.words;
          served_fits = h.served_fits;
          drawn = h.drawn;
          counted = omega (arith, more, one, h.counted);
          tickets = out_kept h.served h.queue s.views id v w at (λ t' has. subst (λ r. HasTicket r t') waits has) h.tickets;
          each = each_set (Seated h.served h.queue h.log) s.views id w
              (record {
                placed = ((first, mine), home.2);
                known = subst (λ l. IsKnown root h.log (known l v.known.own)) (sym home.2) (known_whole root h.log v.known was.known);
                other = was.other;
                number = was.number;
                live = subst (λ r. ticketed r ≤ v.parts) waits was.live;
                part = was.part;
                owner = was.owner;
              })
              (λ j u apart e. h.each j u e);
          disjoint = disjoint_set s.views id v w at (λ place o. inl o) h.disjoint;
          owned = owned_set s.views id (length h.log) v w at (λ place o. o) h.owned;
          whole = omega (arith, shares_set s.views id v w at, h.whole);
          slots = length-set s.homes 0 none ∙ h.slots;
          home = λ still. absurd (held s.views id t v w at refl still);
        },
        (λ t' is. let same : t ≡ t' = ap ticket_of (sym waits ∙ is) in (
          λ ne. absurd (ne (hit ∙ same)),
          λ eq. (
            x,
            refl,
            ap (λ k. record v { role = Turns k; known = known (history x) v.known.own }) same,
            subst (Grows root v.known) (sym home.2) (grows_whole root h.log v.known was.known),
            home.3 ∙ sym (was.number (omega (arith, was.live, one))),
            was.known.below,
            λ all alone. subst (IsWhole v.known) (sym home.2) (whole_of s h id v at all alone),
          ),
        )),
      ))
      (λ miss. (
        v,
        keeps,
        tt,
        subst Rule (λ i. record { words = sym kept i; homes = s.homes; views = sym (set_again s.views id v at) i }) h,
        (λ t' is. let same : t ≡ t' = ap ticket_of (sym waits ∙ is) in (λ ne. refl, λ eq. absurd (miss (eq ∙ sym same)))),
      ))

  pub counts : (id t : ℕ) (me : Me (Option S) (View N)) → me.0.role ≡ Turns t → Allows Rule 1 id me 2 (λ n. n) (Counts (step 1 2 0 0 none) me)
  counts id t me turns s h homes at fits =
      let v = me.0 in
      let knows : IsPlaced h.served h.queue id t 0 × (v.known.seen ≡ h.log) = subst (IsPlacedAs h.served h.queue h.log id v) turns (h.each id v at).placed in
      let kept : set s.words 2 (slice_index s.words 2) ≡ s.words = subst (λ ws. set ws 2 (slice_index ws 2) ≡ ws) (sym h.words) refl in (
        v,
        keeps,
        tt,
        subst Rule (λ i. record { words = sym kept i; homes = s.homes; views = sym (set_again s.views id v at) i }) h,
        (ap (λ ws. slice_index ws 2) h.words ∙ ap length (sym knows.1), refl),
      )

  pub passes : (id t : ℕ) (v : View N) (x : S) → v.role ≡ Turns t → history x ≡ v.known.seen → number x ≡ v.number
      → Allows Rule 1 id (v, (0, Some x) ∷ []) 1 (λ n. (n + 1) % 2 ^ 64) (PassesOn (step 1 1 1 0 none) (v, (0, Some x) ∷ []))
  passes id t v x turns seen mine s h homes at fits =
      let was = h.each id v at in
      let knows : IsPlaced h.served h.queue id t 0 × (v.known.seen ≡ h.log) = subst (IsPlacedAs h.served h.queue h.log id v) turns was.placed in
      let shorter = rest_length h.queue id knows.0.0 in
      let w = record v { role = Idle } in
      let one : ticketed v.role ≡ 1 = ap ticketed turns in
      let more : out (set s.views id w) + ticketed v.role ≡ out s.views + 0 = out_set s.views id v w at in (
        w,
        gives,
        tt,
        record {
          ticket = h.ticket;
          served = (h.served + 1) % 2 ^ 64;
          log = h.log;
          queue = drop 1 h.queue;
          words = ap (λ ws. set ws 1 ((slice_index ws 1 + 1) % 2 ^ 64)) h.words;
          served_fits = mod_below (h.served + 1) (2 ^ 64) (omega arith);
          drawn = h.drawn ∙ (ap (λ k. k % 2 ^ 64) (omega (arith, shorter)) ∙ sym (mod-add-mod (h.served + 1) (2 ^ 64) (length (drop 1 h.queue))));
          counted = omega (arith, more, one, h.counted, shorter);
          tickets = out_passed h.served h.queue s.views id t v w at turns knows.0.1 (few s h) h.tickets;
          each = each_set (Seated ((h.served + 1) % 2 ^ 64) (drop 1 h.queue) h.log) s.views id w
              (record { placed = tt; known = was.known; other = was.other; number = was.number; live = omega arith; part = was.part; owner = was.owner })
              (λ j u apart e. let k = h.each j u e in record { placed = placed_nearer h.served h.queue h.log id j u u.role apart knows.0.0 k.placed; known = k.known; other = k.other; number = k.number; live = k.live; part = k.part; owner = k.owner });
          disjoint = disjoint_set s.views id v w at (λ place o. inl o) h.disjoint;
          owned = owned_set s.views id (length h.log) v w at (λ place o. o) h.owned;
          whole = omega (arith, shares_set s.views id v w at, h.whole);
          slots = length-set s.homes 0 (some (Some x)) ∙ h.slots;
          home = λ still. (x, one_home s.homes (some (Some x)) h.slots, seen ∙ knows.1, mine ∙ was.number (omega (arith, was.live, one)));
        },
        (refl, refl),
      )
    where
      one_home : (hs : List (Maybe (Option S))) (y : Maybe (Option S)) → length hs ≡ 1 → set hs 0 y ≡ y ∷ []
      one_home [] y e = absurd (omega arith)
      one_home (z ∷ []) y e = refl
      one_home (z ∷ z' ∷ zs) y e = absurd (omega arith)

  pub joins : (id other : ℕ) (v u : View N) → v.role ≡ Idle → v.other ≡ nothing → 0 < v.parts → id ≡ 0 → u.role ≡ Idle → u.other ≡ nothing
      → Joins (Turned history root number key) id v other u (joined_view v u) spent_view
  joins id other v u idle alone some_part first rest alone' s h at apart there =
      let w = joined_view v u in
      let ws = set s.views id w in
      let u_there : get_elem? s.views other ≡ some u = ⊎_elim (λ (x : (other ≡ id) × (w ≡ u)). absurd (apart x.0)) (λ (x : (other ≢ id) × (get_elem? s.views other ≡ some u)). x.1) (at_set s.views id other w u there) in
      let was = h.each id v at in
      let theirs = h.each other u u_there in
      let none : ticketed v.role ≡ 0 = ap ticketed idle in
      let none' : ticketed u.role ≡ 0 = ap ticketed rest in
      let more : out ws + ticketed v.role ≡ out s.views + ticketed v.role = out_set s.views id v w at in
      let more' : out (set ws other spent_view) + ticketed u.role ≡ out ws + 0 = out_set ws other u spent_view there in
      record {
        ticket = h.ticket;
        served = h.served;
        log = h.log;
        queue = h.queue;
        words = h.words;
        served_fits = h.served_fits;
        drawn = h.drawn;
        counted = omega (arith, more, more', none', h.counted);
        tickets = out_kept h.served h.queue ws other u spent_view there (λ t has. absurd (subst (λ r. HasTicket r t) rest has)) (out_kept h.served h.queue s.views id v w at (λ t has. has) h.tickets);
        each = each_set (Seated h.served h.queue h.log) ws other spent_view
            (record { placed = tt; known = known_nothing root h.log; other = known_nothing root h.log; number = λ p. absurd (omega arith); live = omega arith; part = λ later. omega arith; owner = λ place o. absurd (⊎_elim (not_in_none place) (not_in_none place) o) })
            (λ j x off e. each_set (Seated h.served h.queue h.log) s.views id w
            (record { placed = was.placed; known = was.known; other = theirs.known; number = λ _. was.number some_part; live = omega (arith, none); part = λ later. absurd (omega arith); owner = λ place o. omega arith })
            (λ j' x' off' e'. h.each j' x' e') j x e);
        disjoint = disjoint_join s.views id other v u w spent_view at u_there apart (λ place o. ⊎_elim (not_in_none place) (not_in_none place) o) (λ place o. ⊎_elim (λ c. inl (inl c)) (λ c. inr (inl c)) o) h.disjoint;
        owned = owned_join s.views id other v u w spent_view at u_there apart (λ place o. ⊎_elim (not_in_none place) (not_in_none place) o) (length h.log)
            (λ place o. ⊎_elim (λ c. inl c) (λ c. absurd (not_in_none place (subst (λ k. Contains k.own place) alone c))) o)
            (λ place o. ⊎_elim (λ c. inr c) (λ c. absurd (not_in_none place (subst (λ k. Contains k.own place) alone' c))) o)
            h.owned;
        whole = omega (arith, shares_set s.views id v w at, shares_set ws other u spent_view there, h.whole);
        slots = h.slots;
        home = λ still. h.home (still_set s.views id v w at idle (still_set ws other u spent_view there rest still));
      }

  -- at the end the state is at home
  pub ends : (id : ℕ) (v : View N) (words : List ℕ) (xs : List (Option S)) → v.role ≡ Idle → v.other ≡ nothing → v.parts ≡ all_parts → Final (Seen (Turned history root number key) id v) words xs
      → (x : S) × (get_elem? xs 0 ≡ some (Some x)) × IsWhole v.known (history x) × (number x ≡ key)
  ends id v words xs idle alone all f =
      let s = f.0 in let h = f.1.0 in let at = f.1.1 in
      let home = h.home (λ j u e. dite (ℕ_discrete j id)
      (λ same. subst IsStill (sym (ap (λ x. x.role) (same_view s.views id j v u at e same) ∙ idle)) tt)
      (λ apart. still_without u.role (omega (arith, (h.each j u e).live, two_at_most s.views id j v u apart at e, h.whole)))) in
      (home.0, f.4 0 (Some home.0) (ap (λ hs. get_elem? hs 0) home.1), subst (IsWhole v.known) (sym home.2) (whole_of s h id v at all alone), home.3)

module _ {S N : Type 0} (history : S → List N) (root : List N → ℕ → ℕ) (number : S → ℕ) (key : ℕ) (before : (log : List N) (place : ℕ) → root log place ≤ place)
    (stays : (log more : List N) (place : ℕ) → place < length log → root (log ++ more) place ≡ root log place) where
  pub merges : (id : ℕ) (me : Me (Option S) (View N)) → me.0.role ≡ Idle → Allows (Turned history root number key) 1 id me 2 (λ n. n) (Merges root (step 1 2 0 0 none) me)
  merges id me idle s h homes at fits =
      let v = me.0 in
      let w = record v { known = united v.known v.other; other = nothing } in
      let was = h.each id v at in
      let kept : set s.words 2 (slice_index s.words 2) ≡ s.words = subst (λ ws. set ws 2 (slice_index ws 2) ≡ ws) (sym h.words) refl in
      let more : out (set s.views id w) + ticketed v.role ≡ out s.views + ticketed v.role = out_set s.views id v w at in (
        w,
        keeps,
        tt,
        record {
          ticket = h.ticket;
          served = h.served;
          log = h.log;
          queue = h.queue;
          words = kept ∙ h.words;
          served_fits = h.served_fits;
          drawn = h.drawn;
          counted = omega (arith, more, h.counted);
          tickets = out_kept h.served h.queue s.views id v w at (λ t has. has) h.tickets;
          each = each_set (IsSeated root key h.served h.queue h.log) s.views id w
              (record {
                placed = subst (IsPlacedAs h.served h.queue h.log id w) (sym idle) tt;
                known = known_united root before stays h.log v.known v.other was.known was.other;
                other = known_nothing root h.log;
                number = was.number;
                live = was.live;
                part = was.part;
                owner = λ place o. was.owner place (⊎_elim (λ c. Contains-append_cases v.known.own v.other.own place c) (λ c. absurd (not_in_none place c)) o);
              })
              (λ j u apart e. h.each j u e);
          disjoint = disjoint_set s.views id v w at (λ place o. inl (⊎_elim (λ c. Contains-append_cases v.known.own v.other.own place c) (λ c. absurd (not_in_none place c)) o)) h.disjoint;
          owned = owned_set s.views id (length h.log) v w at (λ place o. inl (⊎_elim (λ c. Contains-append_left v.known.own v.other.own place c) (λ c. Contains-append_right v.known.own v.other.own place c) o)) h.owned;
          whole = omega (arith, shares_set s.views id v w at, h.whole);
          slots = h.slots;
          home = λ still. h.home (still_set history root number key s.views id v w at idle still);
        },
        (
          refl,
          grows_left root before stays h.log v.known v.other was.known was.other,
          grows_right root before stays h.log v.known v.other was.known was.other,
          omega (arith, parts_at_most s.views id v at, h.whole),
          (known_united root before stays h.log v.known v.other was.known was.other).below,
        ),
      )

  pub splits : (kept given : List ℕ → List ℕ) (id : ℕ) (v : View N) → v.role ≡ Idle → v.other ≡ nothing → 1 < v.parts → id ≡ 0 → Divides root v.known (kept v.known.own) (given v.known.own)
      → Splits (Turned history root number key) id v (kept_view kept v) (given_view given v)
  splits kept given id v idle alone some_parts first divides s h at =
      let was = h.each id v at in
      let w = kept_view kept v in
      let g = given_view given v in
      let none_other : (place : ℕ) → Contains v.other.own place → ⊥ = λ place c. not_in_none place (subst (λ k. Contains k.own place) alone c) in
      let more : out (set s.views id w) + ticketed v.role ≡ out s.views + ticketed v.role = out_set s.views id v w at in
      record {
        ticket = h.ticket;
        served = h.served;
        log = h.log;
        queue = h.queue;
        words = h.words;
        served_fits = h.served_fits;
        drawn = h.drawn;
        counted = omega (arith, more, h.counted, out_snoc (set s.views id w) g);
        tickets = out_longer h.served h.queue (set s.views id w) g (out_kept h.served h.queue s.views id v w at (λ t has. has) h.tickets);
        each = λ j u e. ⊎_elim
            (each_set (IsSeated root key h.served h.queue h.log) s.views id w
            (record {
              placed = subst (IsPlacedAs h.served h.queue h.log id w) (sym idle) tt;
              known = known_kept root stays h.log v.known (kept v.known.own) (given v.known.own) was.known divides;
              other = was.other;
              number = λ _. was.number (omega arith);
              live = subst (λ r. ticketed r ≤ v.parts - 1) (sym idle) (omega arith);
              part = λ later. absurd (omega arith);
              owner = λ place o. omega arith;
            })
            (λ j u apart e. h.each j u e) j u)
            (λ same. subst (IsSeated root key h.served h.queue h.log j) same
            (record {
              placed = tt;
              known = known_given root stays h.log v.known (kept v.known.own) (given v.known.own) was.known divides;
              other = known_nothing root h.log;
              number = λ _. was.number (omega arith);
              live = omega arith;
              part = λ later. omega arith;
              owner = λ place o. omega arith;
            }))
            (at_snoc (set s.views id w) g u j e);
        disjoint = disjoint_split s.views id v w g at
            (λ place o. ⊎_elim (λ c. inl (divides.from_kept place c)) (λ c. inr c) o)
            (λ place o. ⊎_elim (λ c. inl (divides.from_given place c)) (λ c. absurd (not_in_none place c)) o)
            (λ place mine theirs. ⊎_elim (λ a. ⊎_elim (λ b. divides.apart place a b) (not_in_none place) theirs) (none_other place) mine)
            h.disjoint;
        owned = owned_split s.views id v w g at (length h.log) (λ place o. ⊎_elim (λ c. ⊎_elim (λ a. inl (inl a)) (λ b. inr (inl b)) (divides.each place c)) (λ c. inl (inr c)) o) h.owned;
        whole = omega (arith, shares_set s.views id v w at, shares_snoc (set s.views id w) g, h.whole);
        slots = h.slots;
        home = λ still. h.home (still_set history root number key s.views id v w at idle (λ j u e. still j u (at_longer (set s.views id w) (g ∷ []) j u e)));
      }

  abbrev said_or : S → Maybe (Option S) → S
  said_or d (some (Some z)) = z
  said_or d _ = d

  -- the entry does not belong to one whose places are others
  foreign : (log : List N) (e : N) (own : List ℕ) (k : Known N) → IsKnown root log k → Belongs root own (log ++ e ∷ []) (length log) → ((place : ℕ) → Contains own place → Contains k.own place → ⊥)
      → Contains k.own (root (log ++ e ∷ []) (length log)) → ⊥
  foreign log e own k h belongs apart c = ⊎_elim
      (λ here. let low = h.below (length log) (subst (Contains k.own) here c) in let short = prefix_length k.seen log h.seen in omega arith)
      (λ mine. apart (root (log ++ e ∷ []) (length log)) mine c)
      belongs

  pub records : (id t old : ℕ) (me : Me (Option S) (View N)) (x : S) (e : N) → me.0.role ≡ Turns t → me.0.other ≡ nothing → length me.0.known.seen ≡ old → history x ≡ me.0.known.seen ++ e ∷ []
      → Belongs root me.0.known.own (history x) (length me.0.known.seen)
      → Allows (Turned history root number key) 1 id me 2 (λ n. either (n == old) (old + 1) n) (Records history (step 1 2 old (old + 1) (some (Some x))) me)
  records id t old me x e turns alone long adds belongs s h homes at fits =
      let v = me.0 in
      let log = v.known.seen in
      let n = length log in
      let one : ticketed v.role ≡ 1 = ap ticketed turns in
      let was = h.each id v at in
      let knows : IsPlaced h.served h.queue id t 0 × (log ≡ h.log) = subst (IsPlacedAs h.served h.queue h.log id v) turns was.placed in
      let found : slice_index s.words 2 ≡ old = ap (λ ws. slice_index ws 2) h.words ∙ (ap length (sym knows.1) ∙ long) in
      let long' : length (history x) ≡ n + 1 = ap length adds ∙ length-append log (e ∷ []) in
      let grown : either (slice_index s.words 2 == old) (old + 1) (slice_index s.words 2) ≡ length (history x) =
      ap (λ b. either b (old + 1) (slice_index s.words 2)) (eq-eqb (slice_index s.words 2) old found) ∙ omega (arith, long, long') in
      let belongs' : Belongs root v.known.own (log ++ e ∷ []) n = subst (λ l. Belongs root v.known.own l n) adds belongs in
      let w = record v { known = known (history x) (v.known.own ++ n ∷ []) } in
      let more : out (set s.views id w) + ticketed v.role ≡ out s.views + ticketed v.role = out_set s.views id v w at in
      let here = λ (k : Known N) (i : IsKnown root h.log k). subst (λ l. IsKnown root l k) (sym knows.1) i in
      let beside = λ (k : Known N) (i : IsKnown root h.log k) (off : (place : ℕ) → Contains v.known.own place → Contains k.own place → ⊥).
      subst (λ l. IsKnown root l k) (sym adds) (known_beside root before stays log e k (here k i) (foreign log e v.known.own k (here k i) belongs' off)) in (
        w,
        keeps,
        tt,
        record {
          ticket = h.ticket;
          served = h.served;
          log = history x;
          queue = h.queue;
          words = (λ i. set (h.words i) 2 (grown i));
          served_fits = h.served_fits;
          drawn = h.drawn;
          counted = omega (arith, more, h.counted);
          tickets = out_kept h.served h.queue s.views id v w at (λ t' has. has) h.tickets;
          each = each_set (IsSeated root key h.served h.queue (history x)) s.views id w
              (record {
                placed = subst (IsPlacedAs h.served h.queue (history x) id w) (sym turns) (knows.0, refl);
                known = subst (λ l. IsKnown root l (known l (v.known.own ++ n ∷ []))) (sym adds) (known_recorded root before stays log e v.known (here v.known was.known) belongs');
                other = subst (IsKnown root (history x)) (sym alone) (known_nothing root (history x));
                number = was.number;
                live = was.live;
                part = was.part;
                owner = λ place o. omega (arith, was.live, one);
              })
              (λ j u apart e'. let k = h.each j u e' in record {
                placed = placed_beside h.served h.queue h.log (history x) id j u u.role apart knows.0.0 k.placed;
                known = beside u.known k.known (λ place mine theirs. apart (sym (h.disjoint id j place v u at e' (inl mine) (inl theirs))));
                other = beside u.other k.other (λ place mine theirs. apart (sym (h.disjoint id j place v u at e' (inl mine) (inr theirs))));
                number = k.number;
                live = k.live;
                part = k.part;
                owner = k.owner;
              });
          disjoint = disjoint_set s.views id v w at (λ place o. ⊎_elim
              (λ c. ⊎_elim
              (λ old_one. inl (inl old_one))
              (λ new_one. inr (λ j u apart e' o'.
              let low = owns_below history root number key h.served h.queue h.log j u (h.each j u e') place o' in
              let last = is_one n place new_one in
              let same : n ≡ length h.log = ap length knows.1 in
              omega arith))
              (Contains-append_cases v.known.own (n ∷ []) place c))
              (λ c. inl (inr c))
              o) h.disjoint;
          owned = λ place lt. dite (ℕ_discrete place n)
              (λ same. (id, w, set_there s.views id v w at, inl (Contains-append_right v.known.own (n ∷ []) place (subst (Contains (n ∷ [])) (sym same) (in_one n)))))
              (λ apart. owned_set s.views id n v w at (λ p o. ⊎_elim (λ c. inl (Contains-append_left v.known.own (n ∷ []) p c)) (λ c. inr c) o)
              (subst (AreOwned s.views) (ap length (sym knows.1)) h.owned) place (omega (arith, long', apart)));
          whole = omega (arith, shares_set s.views id v w at, h.whole);
          slots = h.slots;
          home = λ still. absurd (held history root number key s.views id t v w at turns still);
        },
        (λ y is. (ap (λ z. record v { known = known (history z) (v.known.own ++ n ∷ []) }) (ap (said_or x) is), refl)),
      )

module _ {S N : Type 0} (history : S → List N) (root : List N → ℕ → ℕ) (number : S → ℕ) (key : ℕ) where
  pub begins : (x : S) → history x ≡ [] → number x ≡ key → Turned history root number key (opening (0 ∷ 0 ∷ 0 ∷ []) (Some x ∷ []) (starting key))
  begins x empty mine = record {
    ticket = 0;
    served = 0;
    log = [];
    queue = [];
    words = refl;
    served_fits = omega arith;
    drawn = refl;
    counted = refl;
    tickets = λ k seat e. absurd (some-ne-none seat (sym e));
    each = one;
    disjoint = λ i j place v w ei ej ov ow. absurd (unowned i place v ei ov);
    owned = λ place lt. let none : place < 0 = lt in absurd (omega arith);
    whole = refl;
    slots = refl;
    home = λ still. (x, refl, empty, mine);
  }
    where
      first : (seat : ℕ) (v : View N) → get_elem? (starting key ∷ []) seat ≡ some v → (seat ≡ 0) × (starting key ≡ v)
      first zero v e = (refl, some-injective _ _ e)
      first (suc k) v e = absurd (some-ne-none v (sym e))

      unowned : (seat place : ℕ) (v : View N) → get_elem? (starting key ∷ []) seat ≡ some v → Owns v place → ⊥
      unowned seat place v e o = ⊎_elim (not_in_none place) (not_in_none place) (subst (λ u. Owns u place) (sym (first seat v e).1) o)

      one : (seat : ℕ) (v : View N) → get_elem? (starting key ∷ []) seat ≡ some v → IsSeated root key 0 [] [] seat v
      one seat v e = subst (IsSeated root key 0 [] [] seat) (first seat v e).1
          (record { placed = tt; known = known_nothing root []; other = known_nothing root []; number = λ _. refl; live = omega arith; part = λ later. let chief = (first seat v e).0 in absurd (omega arith); owner = λ place o. omega arith })

module _ {S : Type 0} where
  abbrev state_or : S → Option S → S
  state_or d (Some x) = x
  state_or d _ = d

  pub state_is : (x y : S) → Some x ≡ Some y → x ≡ y
  state_is x y e = ap (state_or x) e

  abbrev Away : Option S → Type 0
  Away (Some x) = Unit {0}
  Away _ = ⊥

  pub not_away : (x : S) → Some x ≡ None → ⊥
  not_away x e = subst Away e tt

module _ {S : Type 0} where
  pub some_there : (state : Option S) → IsSome state → (x : S) × (state ≡ Some x)
  some_there (Some x) there = (x, refl)
  some_there None there = absurd cc
