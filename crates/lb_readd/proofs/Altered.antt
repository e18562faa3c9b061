-- The readers of ALTER TABLE are exact for its production.
use Rattle.std.proofs.Common.{Bool, true, false, cond, ◌&&◌, ◌||◌, arith, inl, inr, ◌≡◌, ℕ, List, [], ◌∷◌, ◌++◌, Option, Some, None, refl, sym, ap, subst, ◌∙◌}
use Rattle.std.specs.Prelude.{nat_le}
use Rattle.std.proofs.lemmas.Bool.Decides.{nat_tests}
use Rattle.lb_stmt.specs.declared.change.PlainType.{PlainType}
use Rattle.lb_stmt.specs.declared.change.PlainType.TheVariants as plains
use Rattle.lb_stmt.specs.declared.change.ControlOf.TheVariants as controls
use Rattle.lb_stmt.specs.declared.change.Change.{Change}
use Rattle.lb_stmt.specs.declared.change.Change.TheVariants as changes
use Rattle.lb_tok.specs.declared.kind.Kind.{Kind}
use Rattle.lb_tok.specs.declared.kind.Kind.TheVariants as kinds
use Rattle.lb_tok.specs.declared.token.Token.{Token}
use Rattle.lb_tok.specs.Kinds.{Kinds, only, from_to, names, has, number}
use Rattle.lb_tok.specs.Words.{name_in}
use Rattle.lb_tok.specs.Form.{Below, Lang, Nothing, One, Seq, Either, Word, After, Made, Means}
use Rattle.lb_tok.specs.Grammar.{IsName}
use Rattle.lb_tok.specs.Changes.{AfterNamed, IsPlainType, IsActivation, IsAdded, IsAlteredColumn, IsActs, IsAlterTable}
use Rattle.lb_reade.specs.Expressions.{Readers}
use Rattle.lb_readt.proofs.Sets.{subset, within}
use Rattle.lb_readt.proofs.Joined.{Within}
use Rattle.lb_readt.proofs.Combined.{IsReaderOf, one_reads, give_reads, then_reads, same_reads, pick_reads, wide, made_reads, after_reads, means_reads, optional_reads}
use Rattle.lb_readt.proofs.Tokens.{name_token, name_reads}
use Rattle.lb_reade.proofs.Expressions.{Ready}
use Rattle.lb_readt.proofs.Languages.{nil, made_of}
use Rattle.lb_readd.specs.Defining.{plain_types, activates_at, control_of_at, activation_at, in_activation, acts_at, new_column_on, type_of, type_word_at, typed_on, type_word_on, other_name_at, behind_column_at, add_policy_at, added_on, added_at, secure_at, unsecure_at, altered_on, altered_word_on, altered_column_on, altered_column_at, table_change_on, alter_table_at}
use Rattle.lb_readg.proofs.Names.{Ahead2, Chosen, Chosen2, keyword_token, named_reads, ahead_reads, ahead2_reads, to_may, of_may}
use Rattle.lb_readd.proofs.Tables.{Width, width_reads, plain_type_reads}

-- ---- activations

activation_reads : {b : Bool} {d : ℕ} → IsReaderOf b d activation_at IsActivation false in_activation []
unfolding activation_at activates_at control_of_at
activation_reads = wide _ _ refl refl refl (then_reads (pick_reads (means_reads kinds.Activate true refl) (means_reads kinds.Deactivate false refl) refl) (λ a.
    then_reads (pick_reads (means_reads kinds.Row controls.Row refl) (means_reads kinds.Column controls.Column refl) refl) (λ c.
    after_reads kinds.Access refl (means_reads kinds.Control (record { activate = a; of = c }) refl)) refl) refl)

acts_reads : {b : Bool} {d : ℕ} (t : List ℕ) → IsReaderOf b d (acts_at t) (IsActs t) false in_activation in_activation
unfolding acts_at
acts_reads t = wide _ _ refl refl refl (then_reads activation_reads (λ a. made_reads (changes.Activate t a) (optional_reads activation_reads)) refl)

-- ---- ADD

abbrev NewOn : List ℕ → List ℕ → Lang Change
NewOn t c = Made (changes.AddColumn t c) IsPlainType

new_reads : {b : Bool} {d : ℕ} {w : Readers} → Ready d w → (t c : List ℕ) → IsReaderOf b d (new_column_on w t c) (NewOn t c) false plain_types []
unfolding new_column_on
new_reads r t c = made_reads (changes.AddColumn t c) (plain_type_reads r)

-- a word of a type
abbrev TypeWord : Lang (Option PlainType × Option (List ℕ))
TypeWord = One plain_types (λ t. Some (type_of t.kind, name_in t.content))

type_word_reads : {b : Bool} {d : ℕ} → IsReaderOf b d type_word_at TypeWord false plain_types []
unfolding type_word_at has
type_word_reads = one_reads (keyword_token kinds.Date) refl refl refl

abbrev others : Kinds
others = from_to kinds.Count kinds.SecLabelToChar ++ from_to kinds.First kinds.Word

abbrev Other : Lang (List ℕ)
Other = One others (λ t. name_in t.content)

other_reads : {b : Bool} {d : ℕ} → IsReaderOf b d other_name_at Other false others []
unfolding other_name_at has
other_reads = one_reads name_token refl refl refl

-- a type whose word is taken
abbrev Typed : List ℕ → List ℕ → Option PlainType → Lang Change
Typed t c (Some y) = Nothing (changes.AddColumn t c y)
Typed t c None = Made (changes.AddColumn t c) Width

typed_reads : {b : Bool} {d : ℕ} {w : Readers} → Ready d w → (t c : List ℕ) (o : Option PlainType) → IsReaderOf b d (typed_on w t c o) (Typed t c o) true (only kinds.Open) []
unfolding typed_on
typed_reads r t c (Some y) = wide _ _ refl refl refl (give_reads (changes.AddColumn t c y))
typed_reads r t c None = wide _ _ refl refl refl (made_reads (changes.AddColumn t c) (width_reads r))

abbrev TypeOn : List ℕ → List ℕ → Option PlainType × Option (List ℕ) → Lang Change
TypeOn t c (y, Some n) = Either (NewOn t n) (Typed t c y)
TypeOn t c (y, None) = Typed t c y

abbrev behind_type : Kinds
behind_type = plain_types ++ only kinds.Open

type_on_reads : {b : Bool} {d : ℕ} {w : Readers} → Ready d w → (t c : List ℕ) (p : Option PlainType × Option (List ℕ)) → IsReaderOf b d (type_word_on w t c p) (TypeOn t c p) true behind_type plain_types
unfolding type_word_on
type_on_reads r t c (y, Some n) = wide _ _ refl refl refl (pick_reads (new_reads r t n) (typed_reads r t c y) refl)
type_on_reads r t c (y, None) = wide _ _ refl refl refl (typed_reads r t c y)

-- a name and a type, or a type alone
abbrev BehindColumn : List ℕ → List ℕ → Lang Change
BehindColumn t c = Either (Seq IsName (NewOn t)) (NewOn t c)

abbrev ByWord : List ℕ → List ℕ → Lang Change
ByWord t c = Either (Seq TypeWord (TypeOn t c)) (Seq Other (NewOn t))

simple : (k : Kind) (y : PlainType) → type_of k ≡ Some y → (s : Below) (u : Token) → u.kind ≡ k → IsPlainType s (u ∷ []) y
unfolding type_of has
simple kinds.BigInt y e s u h = inl (u ∷ [], [], tt, (u, refl, ap (λ (k : Kind). has (only kinds.BigInt) k) h, refl), (refl, cc), refl)
simple kinds.Integer y e s u h = inr (inl (u ∷ [], [], tt, (u, refl, ap (λ (k : Kind). has (only kinds.Integer) k) h, refl), (refl, cc), refl))
simple kinds.Int y e s u h = inr (inr (inl (u ∷ [], [], tt, (u, refl, ap (λ (k : Kind). has (only kinds.Int) k) h, refl), (refl, cc), refl)))
simple kinds.Date y e s u h = inr (inr (inr (inr (u ∷ [], [], tt, (u, refl, ap (λ (k : Kind). has (only kinds.Date) k) h, refl), (refl, cc), refl))))
simple k y e s u h = absurd cc

-- a word of a type that is no type alone is VARCHAR
only_varchar : (k : Kind) → has plain_types k ≡ true → type_of k ≡ None → has (only kinds.Varchar) k ≡ true
unfolding type_of has
only_varchar kinds.Varchar h e = refl
only_varchar kinds.BigInt h e = absurd cc
only_varchar kinds.Integer h e = absurd cc
only_varchar kinds.Int h e = absurd cc
only_varchar kinds.Date h e = absurd cc
only_varchar k h e = absurd cc

of_big : (k : Kind) → has (only kinds.BigInt) k ≡ true → type_of k ≡ Some plains.Int
unfolding type_of has
of_big kinds.BigInt h = refl
of_big k h = absurd cc

of_integer : (k : Kind) → has (only kinds.Integer) k ≡ true → type_of k ≡ Some plains.Int
unfolding type_of has
of_integer kinds.Integer h = refl
of_integer k h = absurd cc

of_int : (k : Kind) → has (only kinds.Int) k ≡ true → type_of k ≡ Some plains.Int
unfolding type_of has
of_int kinds.Int h = refl
of_int k h = absurd cc

of_date : (k : Kind) → has (only kinds.Date) k ≡ true → type_of k ≡ Some plains.Date
unfolding type_of has
of_date kinds.Date h = refl
of_date k h = absurd cc

of_varchar : (k : Kind) → has (only kinds.Varchar) k ≡ true → type_of k ≡ None
unfolding type_of has
of_varchar kinds.Varchar h = refl
of_varchar k h = absurd cc

-- a name is a word of a type or none
other_name : (k : Kind) → has names k ≡ true → has plain_types k ≡ false → has others k ≡ true
unfolding has
other_name k h e = by_number (number k) (shown _ h) (hidden _ e)
  where
    shown : (b : Bool) → cond b true false ≡ true → b ≡ true
    shown true e = refl
    shown false e = absurd cc

    hidden : (b : Bool) → cond b true false ≡ false → b ≡ false
    hidden true e = absurd cc
    hidden false e = refl

    joined : (a b : Bool) → (a || b) ≡ true → cond a true (cond b true false) ≡ true
    joined true b e = refl
    joined false true e = refl
    joined false false e = absurd cc

    numbers : (n : ℕ) → (nat_le 59 n && nat_le n 141) ≡ true → (nat_le 74 n && nat_le n 78) ≡ false → ((nat_le 59 n && nat_le n 73) || (nat_le 79 n && nat_le n 141)) ≡ true
    numbers n h e = grind (arith, nat_tests)

    by_number : (n : ℕ) → (nat_le 59 n && nat_le n 141) ≡ true → (nat_le 74 n && nat_le n 78) ≡ false → cond (nat_le 59 n && nat_le n 73) true (cond (nat_le 79 n && nat_le n 141) true false) ≡ true
    by_number n h e = joined _ _ (numbers n h e)

-- ---- ADD, after COLUMN

-- a word of a type, and what goes on after it, spell a column of the type
to_typed : (t c : List ℕ) (s : Below) (u : Token) (b : List Token) (x : Change) (y : Option PlainType) → has plain_types u.kind ≡ true → type_of u.kind ≡ y → Typed t c y s b x → NewOn t c s (u ∷ b) x
to_typed t c s u b x (Some y) h e p =
    let w : IsPlainType s (u ∷ []) y = simple u.kind y e s u refl in
    (u ∷ [], b, y, w, p, refl)
to_typed t c s u b x None h e p =
    let m = made_of (changes.AddColumn t c) Width s b x p in
    let v : After kinds.Varchar Width s (u ∷ b) m.0 = (u ∷ [], b, tt, (u, refl, only_varchar u.kind h e, refl), m.1, refl) in
    (u ∷ b, [], m.0, inr (inr (inr (inl v))), (refl, m.2), sym (nil (u ∷ b)))

seen_kind : (u : Token) (y : Option PlainType) (o : Option (List ℕ)) → ◌≡◌ {A = Option (Option PlainType × Option (List ℕ))} (Some (type_of u.kind, name_in u.content)) (Some (y, o)) → (type_of u.kind ≡ y) × (name_in u.content ≡ o)
seen_kind u y o e =
    let q : ◌≡◌ {A = Option PlainType × Option (List ℕ)} (type_of u.kind, name_in u.content) (y, o) = cc in
    (ap (λ (z : Option PlainType × Option (List ℕ)). z.0) q, ap (λ (z : Option PlainType × Option (List ℕ)). z.1) q)

to_behind : (t c : List ℕ) → Within (ByWord t c) (BehindColumn t c)
to_behind t c s ts x (inr p) = inl (p.0, p.1, p.2, (p.3.0, p.3.1, within others names p.3.0.kind refl p.3.2, p.3.3), p.4, p.5)
to_behind t c s ts x (inl p) = go p.2 p.3 p.4
  where
    typed : (y : Option PlainType) (o : Option (List ℕ)) → TypeWord s p.0 (y, o) → Typed t c y s p.1 x → BehindColumn t c s ts x
    typed y o w q = inr (subst (λ (u : List Token). NewOn t c s u x) (sym (p.5 ∙ ap (λ (u : List Token). u ++ p.1) w.1)) (to_typed t c s w.0 p.1 x y w.2 (seen_kind w.0 y o w.3).0 q))

    go : (w : Option PlainType × Option (List ℕ)) → TypeWord s p.0 w → TypeOn t c w s p.1 x → BehindColumn t c s ts x
    go (y, Some n) w (inl q) = inl (p.0, p.1, n, (w.0, w.1, within plain_types names w.0.kind refl w.2, (seen_kind w.0 y (Some n) w.3).1), q, p.5)
    go (y, Some n) w (inr q) = typed y (Some n) w q
    go (y, None) w q = typed y None w q

-- after a word of a type the type may be all
typed_on_any : (t c : List ℕ) (s : Below) (b : List Token) (x : Change) (y : Option PlainType) (o : Option (List ℕ)) → Typed t c y s b x → TypeOn t c (y, o) s b x
typed_on_any t c s b x y (Some n) p = inr p
typed_on_any t c s b x y None p = p

of_behind : (t c : List ℕ) → Within (BehindColumn t c) (ByWord t c)
of_behind t c s ts x (inl p) = go (has plain_types p.3.0.kind) refl
  where
    go : (b : Bool) → has plain_types p.3.0.kind ≡ b → ByWord t c s ts x
    go true e = inl (p.0, p.1, (type_of p.3.0.kind, Some p.2), (p.3.0, p.3.1, e, ap (λ (o : Option (List ℕ)). Some (type_of p.3.0.kind, o)) p.3.3), inl p.4, p.5)
    go false e = inr (p.0, p.1, p.2, (p.3.0, p.3.1, other_name p.3.0.kind p.3.2 e, p.3.3), p.4, p.5)
of_behind t c s ts x (inr p) = let m = made_of (changes.AddColumn t c) IsPlainType s ts x p in typed m.0 m.2 m.1
  where
    begun : (k : Kind) (y : Option PlainType) (a b : List Token) → Word k s a tt → subset (only k) plain_types ≡ true → ((l : Kind) → has (only k) l ≡ true → type_of l ≡ y) → Typed t c y s b x → ts ≡ a ++ b → ByWord t c s ts x
    begun k y a b w h f q e =
        let i : type_of w.0.kind ≡ y = f w.0.kind w.2 in
        inl (a, b, (y, name_in w.0.content), (w.0, w.1, within (only k) plain_types w.0.kind h w.2, ap (λ (z : Option PlainType). Some (z, name_in w.0.content)) i), typed_on_any t c s b x y (name_in w.0.content) q, e)

    typed : (y : PlainType) → x ≡ changes.AddColumn t c y → IsPlainType s ts y → ByWord t c s ts x
    typed y e (inl q) = begun kinds.BigInt (Some plains.Int) q.0 q.1 q.3 refl of_big (q.4.0, e ∙ ap (λ (z : PlainType). changes.AddColumn t c z) q.4.1) q.5
    typed y e (inr (inl q)) = begun kinds.Integer (Some plains.Int) q.0 q.1 q.3 refl of_integer (q.4.0, e ∙ ap (λ (z : PlainType). changes.AddColumn t c z) q.4.1) q.5
    typed y e (inr (inr (inl q))) = begun kinds.Int (Some plains.Int) q.0 q.1 q.3 refl of_int (q.4.0, e ∙ ap (λ (z : PlainType). changes.AddColumn t c z) q.4.1) q.5
    typed y e (inr (inr (inr (inl q)))) = begun kinds.Varchar None q.0 q.1 q.3 refl of_varchar (q.1, [], y, q.4, (refl, e), sym (nil q.1)) q.5
    typed y e (inr (inr (inr (inr q)))) = begun kinds.Date (Some plains.Date) q.0 q.1 q.3 refl of_date (q.4.0, e ∙ ap (λ (z : PlainType). changes.AddColumn t c z) q.4.1) q.5

behind_reads : {b : Bool} {d : ℕ} {w : Readers} → Ready d w → (t c : List ℕ) → IsReaderOf b d (behind_column_at w t c) (BehindColumn t c) false names plain_types
unfolding behind_column_at
behind_reads r t c = wide _ _ refl refl refl (same_reads (BehindColumn t c) (to_behind t c) (of_behind t c) (pick_reads (then_reads type_word_reads (type_on_reads r t c) refl) (then_reads other_reads (new_reads r t) refl) refl))

abbrev Policy : List ℕ → Lang Change
Policy t = After kinds.Policy (Made (changes.AddPolicy t) IsName)

policy_reads : {b : Bool} {d : ℕ} (t : List ℕ) → IsReaderOf b d (add_policy_at t) (Policy t) false (only kinds.Policy) []
unfolding add_policy_at
policy_reads t = after_reads kinds.Policy refl (made_reads (changes.AddPolicy t) name_reads)

added_on_reads : {b : Bool} {d : ℕ} {w : Readers} → Ready d w → (t : List ℕ) (p : (Bool × Bool) × List ℕ) → IsReaderOf b d (added_on w t p) (Chosen2 (Policy t) (Seq IsName (NewOn t)) (NewOn t) p) false names plain_types
unfolding added_on
added_on_reads r t ((true, c), n) = wide _ _ refl refl refl (pick_reads (policy_reads t) (new_reads r t n) refl)
added_on_reads r t ((false, true), n) = behind_reads r t n
added_on_reads r t ((false, false), n) = wide _ _ refl refl refl (new_reads r t n)

abbrev Added : List ℕ → Lang Change
Added t = Ahead2 kinds.Security (Policy t) kinds.Column (Seq IsName (NewOn t)) (NewOn t)

to_added : (t : List ℕ) → Within (Added t) (IsAdded t)
to_added t s ts x (inl p) = inl p
to_added t s ts x (inr p) = inr (to_may kinds.Column (Seq IsName (NewOn t)) s ts x p)

of_added : (t : List ℕ) → Within (IsAdded t) (Added t)
of_added t s ts x (inl p) = inl p
of_added t s ts x (inr p) = inr (of_may kinds.Column (Seq IsName (NewOn t)) s ts x p)

added_reads : {b : Bool} {d : ℕ} {w : Readers} → Ready d w → (t : List ℕ) → IsReaderOf b d (added_at w t) (IsAdded t) false names plain_types
unfolding added_at
added_reads r t = wide _ _ refl refl refl (same_reads (IsAdded t) (to_added t) (of_added t) (ahead2_reads kinds.Security (Policy t) kinds.Column (Seq IsName (NewOn t)) (NewOn t) refl refl refl (added_on_reads r t) refl))

-- ---- ALTER COLUMN

abbrev Secure : List ℕ → List ℕ → Lang Change
Secure t c = After kinds.With (Made (changes.SecureColumn t c) IsName)

abbrev Unsecure : List ℕ → List ℕ → Lang Change
Unsecure t c = After kinds.Column (Means kinds.Security (changes.UnsecureColumn t c))

-- after the column
abbrev AlteredOn : List ℕ → List ℕ → Lang Change
AlteredOn t c = Either (AfterNamed kinds.Secured (Secure t c)) (AfterNamed kinds.Drop (Unsecure t c))

secure_reads : {b : Bool} {d : ℕ} (t c : List ℕ) → IsReaderOf b d (secure_at t c) (Secure t c) false (only kinds.With) []
unfolding secure_at
secure_reads t c = after_reads kinds.With refl (made_reads (changes.SecureColumn t c) name_reads)

unsecure_reads : {b : Bool} {d : ℕ} (t c : List ℕ) → IsReaderOf b d (unsecure_at t c) (Unsecure t c) false (only kinds.Column) []
unfolding unsecure_at
unsecure_reads t c = after_reads kinds.Column refl (means_reads kinds.Security (changes.UnsecureColumn t c) refl)

abbrev in_altered : Kinds
in_altered = only kinds.Secured ++ only kinds.Drop

altered_on_reads : {b : Bool} {d : ℕ} (t c : List ℕ) → IsReaderOf b d (altered_on t c) (AlteredOn t c) false in_altered []
unfolding altered_on
altered_on_reads t c = wide _ _ refl refl refl (pick_reads (then_reads (named_reads kinds.Secured refl) (λ _. secure_reads t c) refl) (then_reads (named_reads kinds.Drop refl) (λ _. unsecure_reads t c) refl) refl)

abbrev in_word : Kinds
in_word = only kinds.With ++ only kinds.Column ++ in_altered

word_on_reads : {b : Bool} {d : ℕ} (t c : List ℕ) (p : (Bool × Bool) × List ℕ) → IsReaderOf b d (altered_word_on t c p) (Chosen2 (Secure t c) (Unsecure t c) (AlteredOn t) p) false in_word []
unfolding altered_word_on
word_on_reads t c ((true, o), n) = wide _ _ refl refl refl (pick_reads (secure_reads t c) (altered_on_reads t n) refl)
word_on_reads t c ((false, true), n) = wide _ _ refl refl refl (pick_reads (unsecure_reads t c) (altered_on_reads t n) refl)
word_on_reads t c ((false, false), n) = wide _ _ refl refl refl (altered_on_reads t n)

-- after COLUMN, which may be the column
abbrev ColumnWord : List ℕ → List ℕ → Lang Change
ColumnWord t c = Ahead2 kinds.Secured (Secure t c) kinds.Drop (Unsecure t c) (AlteredOn t)

abbrev AlteredNamed : List ℕ → List ℕ → Lang Change
AlteredNamed t c = Either (Seq IsName (AlteredOn t)) (AlteredOn t c)

to_word : (t c : List ℕ) → Within (ColumnWord t c) (AlteredNamed t c)
to_word t c s ts x (inl p) = inr (inl p)
to_word t c s ts x (inr (inl p)) = inr (inr p)
to_word t c s ts x (inr (inr p)) = inl p

of_word : (t c : List ℕ) → Within (AlteredNamed t c) (ColumnWord t c)
of_word t c s ts x (inl p) = inr (inr p)
of_word t c s ts x (inr (inl p)) = inl p
of_word t c s ts x (inr (inr p)) = inr (inl p)

altered_column_on_reads : {b : Bool} {d : ℕ} (t : List ℕ) (p : Bool × List ℕ) → IsReaderOf b d (altered_column_on t p) (Chosen (Seq IsName (AlteredOn t)) (AlteredOn t) p) false names []
unfolding altered_column_on
altered_column_on_reads t (true, n) = wide _ _ refl refl refl (same_reads (AlteredNamed t n) (to_word t n) (of_word t n) (ahead2_reads kinds.Secured (Secure t n) kinds.Drop (Unsecure t n) (AlteredOn t) refl refl refl (word_on_reads t n) refl))
altered_column_on_reads t (false, n) = wide _ _ refl refl refl (altered_on_reads t n)

altered_column_reads : {b : Bool} {d : ℕ} (t : List ℕ) → IsReaderOf b d (altered_column_at t) (IsAlteredColumn t) false names []
unfolding altered_column_at
altered_column_reads t = wide _ _ refl refl refl (same_reads (IsAlteredColumn t) (to_may kinds.Column (Seq IsName (AlteredOn t))) (of_may kinds.Column (Seq IsName (AlteredOn t))) (ahead_reads kinds.Column (Seq IsName (AlteredOn t)) (AlteredOn t) refl (altered_column_on_reads t) refl))

-- ---- all of ALTER TABLE

abbrev TableChange : List ℕ → Lang Change
TableChange t = Either (After kinds.Add (IsAdded t)) (Either (After kinds.Alter (IsAlteredColumn t)) (IsActs t))

abbrev pub after_alter_table : Kinds
after_alter_table = plain_types ++ in_activation

table_change_reads : {b : Bool} {d : ℕ} {w : Readers} → Ready d w → (t : List ℕ) → IsReaderOf b d (table_change_on w t) (TableChange t) false (only kinds.Add ++ only kinds.Alter ++ in_activation) after_alter_table
unfolding table_change_on
table_change_reads r t = wide _ _ refl refl refl (pick_reads (after_reads kinds.Add refl (added_reads r t)) (pick_reads (after_reads kinds.Alter refl (altered_column_reads t)) (acts_reads t) refl) refl)

pub alter_table_reads : {b : Bool} {d : ℕ} {w : Readers} → Ready d w → IsReaderOf b d (alter_table_at w) IsAlterTable false (only kinds.Table) after_alter_table
unfolding alter_table_at
alter_table_reads r = wide _ _ refl refl refl (after_reads kinds.Table refl (then_reads name_reads (table_change_reads r) refl))
