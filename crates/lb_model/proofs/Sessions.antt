-- Sessions of a journal: which entries are whose, as it grows.
use Rattle.std.proofs.Common.{Bool, true, false, cond, ◌≡◌, ℕ, zero, suc, ◌+◌, ◌<◌, ◌≤◌, List, [], ◌∷◌, ◌++◌, length, Option, Some, None, refl, sym, ap, subst, ◌∙◌, append_assoc, zero-add, arith}
use Rattle.std.specs.Prelude.{slice_get, ◌==◌}
use Rattle.std.proofs.lemmas.Bool.Decides.{nat_tests}
use Rattle.std.proofs.lemmas.List.Sums.{sum_by-append, sum_by-cons}
use Rattle.std.proofs.lemmas.List.{append-nil}
use Rattle.lb_cat.specs.declared.entry.Entry.{Entry}
use Rattle.lb_cat.specs.declared.entry.Entry.TheVariants as entries
use Rattle.lb_cat.specs.declared.entry.Said.{Said}
use Rattle.lb_model.specs.Journal.{FollowsSaid, Follows, MadeFrom, IsMade, mine_from, mine, opened_by, said_by, is_said_by, opens, is_open}
use Rattle.lb_model.proofs.Longer.{mine_from_more}

one_if : Bool → ℕ
one_if b = cond b 1 0

-- ---- the number of sessions

pub opens_more : (J K : List Entry) → opens (J ++ K) ≡ opens J + opens K
opens_more J K = sum_by-append (λ (e : Entry). cond (is_open e) 1 0) J K

pub opens_open : (user : List ℕ) (groups : List (List ℕ)) (es : List Entry) → opens (entries.Open user groups ∷ es) ≡ suc (opens es)
opens_open user groups es = let h = sum_by-cons (λ (e : Entry). cond (is_open e) 1 0) (entries.Open user groups) es in h ∙ omega arith

pub opens_said : (d : Said) (es : List Entry) → opens (entries.Said d ∷ es) ≡ opens es
opens_said d es = sum_by-cons (λ (e : Entry). cond (is_open e) 1 0) (entries.Said d) es ∙ zero-add (opens es)

pub opens_with_open : (J : List Entry) (user : List ℕ) (groups : List (List ℕ)) → opens (J ++ entries.Open user groups ∷ []) ≡ opens J + 1
opens_with_open J user groups = let h = opens_more J (entries.Open user groups ∷ []) in let one = opens_open user groups [] in omega (arith, h, one)

pub opens_with_said : (J : List Entry) (d : Said) → opens (J ++ entries.Said d ∷ []) ≡ opens J
opens_with_said J d = opens_more J (entries.Said d ∷ []) ∙ (let one : opens (entries.Said d ∷ []) ≡ 0 = opens_said d [] in omega (arith, one))

-- ---- who opened a session

-- a session that was opened has a number below the count
pub opened_below : (J : List Entry) (s : ℕ) (who : List ℕ × List (List ℕ)) → opened_by J s ≡ Some who → s < opens J
opened_below [] s who h = absurd cc
opened_below (entries.Open user groups ∷ es) zero who h = let one = opens_open user groups es in omega (arith, one)
opened_below (entries.Open user groups ∷ es) (suc s) who h = let one = opens_open user groups es in let rest = opened_below es s who h in omega (arith, one, rest)
opened_below (entries.Said d ∷ es) s who h = let one = opens_said d es in let rest = opened_below es s who h in omega (arith, one, rest)

-- the session opened last
pub opened_last : (J : List Entry) (user : List ℕ) (groups : List (List ℕ)) → opened_by (J ++ entries.Open user groups ∷ []) (opens J) ≡ Some (user, groups)
opened_last [] user groups = refl
opened_last (entries.Open u g ∷ es) user groups = subst (λ (n : ℕ). opened_by (entries.Open u g ∷ (es ++ entries.Open user groups ∷ [])) n ≡ Some (user, groups)) (sym (opens_open u g es)) (opened_last es user groups)
opened_last (entries.Said d ∷ es) user groups = subst (λ (n : ℕ). opened_by (es ++ entries.Open user groups ∷ []) n ≡ Some (user, groups)) (sym (opens_said d es)) (opened_last es user groups)

-- ---- whose statements

apart : (s n : ℕ) → s < n → (s == n) ≡ false
apart s n h = grind (arith, nat_tests)

not_same : (s n : ℕ) → (s ≡ n → ⊥) → (s == n) ≡ false
not_same s n h = go (s == n) refl
  where
    go : (b : Bool) → (s == n) ≡ b → b ≡ false
    go true e = absurd (h (grind (arith, nat_tests)))
    go false e = refl

-- no entry is of a session that was not opened yet
none_from : (s at : ℕ) (P K : List Entry) → MadeFrom P K → opens (P ++ K) ≤ s → mine_from s at K ≡ []
none_from s at P [] h le = refl
none_from s at P (entries.Open user groups ∷ es) h le =
    none_from s (at + 1) (P ++ entries.Open user groups ∷ []) es h.1 (subst (λ (J : List Entry). opens J ≤ s) (sym (append_assoc P (entries.Open user groups ∷ []) es)) le)
none_from s at P (entries.Said d ∷ es) h le =
    let f : FollowsSaid P d = h.0 in
    let below : d.session < opens P = opened_below P d.session (d.user, d.groups) f.opened in
    let all : opens (P ++ entries.Said d ∷ es) ≡ opens P + opens (entries.Said d ∷ es) = opens_more P (entries.Said d ∷ es) in
    let e : (d.session == s) ≡ false = apart d.session s (omega (arith, below, all, le)) in
    rw e (none_from s (at + 1) (P ++ entries.Said d ∷ []) es h.1 (subst (λ (J : List Entry). opens J ≤ s) (sym (append_assoc P (entries.Said d ∷ []) es)) le))

pub mine_later : (J : List Entry) (s : ℕ) → IsMade J → opens J ≤ s → mine J s ≡ []
mine_later J s h le = none_from s 0 [] J h le

-- an Open is no session's statement
pub mine_open : (J : List Entry) (user : List ℕ) (groups : List (List ℕ)) (s : ℕ) → mine (J ++ entries.Open user groups ∷ []) s ≡ mine J s
mine_open J user groups s = mine_from_more s 0 J (entries.Open user groups ∷ []) ∙ append-nil (mine J s)

-- a statement is of its own session alone
pub mine_other : (J : List Entry) (d : Said) (s : ℕ) → s < d.session → mine (J ++ entries.Said d ∷ []) s ≡ mine J s
mine_other J d s h =
    let e : (d.session == s) ≡ false = not_same d.session s (λ same. omega (arith, h, same)) in
    mine_from_more s 0 J (entries.Said d ∷ []) ∙ rw e (append-nil (mine J s))

-- ---- how many statements

said_one : (s : ℕ) (d : Said) (es : List Entry) → said_by (entries.Said d ∷ es) s ≡ one_if (d.session == s) + said_by es s
unfolding one_if
said_one s d es = sum_by-cons (λ (e : Entry). cond (is_said_by s e) 1 0) (entries.Said d) es

said_open : (s : ℕ) (user : List ℕ) (groups : List (List ℕ)) (es : List Entry) → said_by (entries.Open user groups ∷ es) s ≡ said_by es s
said_open s user groups es = sum_by-cons (λ (e : Entry). cond (is_said_by s e) 1 0) (entries.Open user groups) es ∙ zero-add (said_by es s)

zero_if : (b : Bool) → b ≡ false → one_if b ≡ 0
unfolding one_if
zero_if true h = absurd cc
zero_if false h = refl

none_said : (s : ℕ) (P K : List Entry) → MadeFrom P K → opens (P ++ K) ≤ s → said_by K s ≡ 0
none_said s P [] h le = refl
none_said s P (entries.Open user groups ∷ es) h le =
    said_open s user groups es ∙ none_said s (P ++ entries.Open user groups ∷ []) es h.1 (subst (λ (J : List Entry). opens J ≤ s) (sym (append_assoc P (entries.Open user groups ∷ []) es)) le)
none_said s P (entries.Said d ∷ es) h le =
    let f : FollowsSaid P d = h.0 in
    let below : d.session < opens P = opened_below P d.session (d.user, d.groups) f.opened in
    let all : opens (P ++ entries.Said d ∷ es) ≡ opens P + opens (entries.Said d ∷ es) = opens_more P (entries.Said d ∷ es) in
    let e : (d.session == s) ≡ false = apart d.session s (omega (arith, below, all, le)) in
    let none : one_if (d.session == s) ≡ 0 = zero_if (d.session == s) e in
    said_one s d es ∙ ap (λ (n : ℕ). n + said_by es s) none ∙ zero-add (said_by es s) ∙ none_said s (P ++ entries.Said d ∷ []) es h.1 (subst (λ (J : List Entry). opens J ≤ s) (sym (append_assoc P (entries.Said d ∷ []) es)) le)

-- a session that was opened now has no statement yet
pub said_none : (J : List Entry) (user : List ℕ) (groups : List (List ℕ)) → IsMade J → said_by (J ++ entries.Open user groups ∷ []) (opens J) ≡ 0
said_none J user groups h =
    let s : ℕ = opens J in
    sum_by-append (λ (e : Entry). cond (is_said_by s e) 1 0) J (entries.Open user groups ∷ [])
    ∙ ap (λ (n : ℕ). n + said_by (entries.Open user groups ∷ []) s) (none_said s [] J h (omega arith)) ∙ said_open s user groups []

-- ---- places

pub get_at : {A : Type 0} (xs : List A) (y : A) (ys : List A) → slice_get (xs ++ y ∷ ys) (length xs) ≡ Some y
get_at [] y ys = refl
get_at (x ∷ xs) y ys = get_at xs y ys
