-- Permissions and masks are read in a few steps; here the steps are one production.
use Rattle.std.proofs.Common.{◌≡◌, ℕ, List, ◌++◌, refl, sym, subst, ◌∙◌, Bool}
use Rattle.lb_tree.specs.declared.query.Tab.{Tab}
use Rattle.lb_tree.specs.declared.query.Cond.{Cond}
use Rattle.lb_tree.specs.declared.query.Expr.{Expr}
use Rattle.lb_tok.specs.declared.kind.Kind.{Kind}
use Rattle.lb_tok.specs.declared.kind.Kind.TheVariants as kinds
use Rattle.lb_tok.specs.declared.token.Token.{Token}
use Rattle.lb_tok.specs.Kinds.{Kinds}
use Rattle.lb_tok.specs.Form.{Lang}
use Rattle.lb_tok.specs.Grammar.{level}
use Rattle.lb_readt.specs.Readers.{Answer, got, stop, Reader, bind, seq, give, word, after, means}
use Rattle.lb_readt.specs.Tokens.{name_at}
use Rattle.lb_reade.specs.Expressions.{Readers, cond_at, case_at}
use Rattle.lb_readq.specs.Queries.{tab_at}
use Rattle.lb_readt.proofs.Joined.{SoundAt, Meets, via}
use Rattle.lb_readt.proofs.Combined.{IsReaderOf}
use Rattle.lb_readd.specs.Defining.{controlled_at, rows_at, masked_at}

-- what holds of a reader holds of one that answers the same
pub like_reads : {b : Bool} {d : ℕ} {A : Type 0} {f : Reader A} {P : Lang A} {n : Bool} {F E : Kinds} (h : Reader A) → ((ts : List Token) → h ts ≡ f ts) → IsReaderOf b d f P n F E → IsReaderOf b d h P n F E
like_reads {b} {d} {A} {f} {P} h e p =
    record {
      tongue = p.tongue;
      exact = λ q. let x = p.exact q in record {
        tongue = x.tongue;
        sound = λ ts. subst (λ (a : Answer A). SoundAt level d d h P ts a) (sym (e ts)) (via level d d f h P P ts (f ts) (λ u y s. s) (λ front rest r w al. e (front ++ r)) (x.sound ts));
        only = λ k front y rest s c. subst (λ (a : Answer A). Meets a y rest) (sym (e (front ++ rest))) (x.only k front y rest s c);
      };
    }

bind_assoc : {A B C : Type 0} (a : Answer A) (g : A → Reader B) (h : B → Reader C) → bind (bind a g) h ≡ bind a (λ x. seq (g x) h)
bind_assoc (got x rest) g h = refl
bind_assoc (stop c rest) g h = refl

bind_same : {A B : Type 0} (a : Answer A) (g h : A → Reader B) → ((x : A) (ts : List Token) → g x ts ≡ h x ts) → bind a g ≡ bind a h
bind_same (got x rest) g h e = e x rest
bind_same (stop c rest) g h e = refl

-- two steps and then a third
then_on : {A B C : Type 0} (f : Reader A) (g : A → Reader B) (h : B → Reader C) (k : A → Reader C) → ((x : A) (ts : List Token) → seq (g x) h ts ≡ k x ts) → (ts : List Token) → seq (seq f g) h ts ≡ seq f k ts
then_on f g h k e ts = bind_assoc (f ts) g h ∙ bind_same (f ts) (λ x. seq (g x) h) k e

after_on : {B C : Type 0} (w : Kind) (g : Reader B) (h : B → Reader C) (k : Reader C) → ((ts : List Token) → seq g h ts ≡ k ts) → (ts : List Token) → seq (after w g) h ts ≡ after w k ts
after_on w g h k e ts = then_on (word w) (λ _. g) h (λ _. k) (λ _. e) ts

means_on : {B C : Type 0} (w : Kind) (x : B) (h : B → Reader C) (ts : List Token) → seq (means w x) h ts ≡ after w (h x) ts
means_on w x h ts = then_on (word w) (λ _. give x) h (λ _. h x) (λ _ us. refl) ts

pub controlled_on : {C : Type 0} (k : List ℕ × Tab → Reader C) (ts : List Token) → seq controlled_at k ts ≡ seq name_at (λ n. after kinds.On (seq tab_at (λ t. after kinds.For (k (n, t))))) ts
unfolding controlled_at
controlled_on k ts = then_on name_at _ k (λ n. after kinds.On (seq tab_at (λ t. after kinds.For (k (n, t))))) (λ n. after_on kinds.On _ k (seq tab_at (λ t. after kinds.For (k (n, t)))) (then_on tab_at _ k (λ t. after kinds.For (k (n, t))) (λ t. means_on kinds.For (n, t) k))) ts

pub rows_on : {C : Type 0} (w : Readers) (k : Cond → Reader C) (ts : List Token) → seq (rows_at w) k ts ≡ after kinds.Rows (after kinds.Where (seq (cond_at w) (λ c. after kinds.Enforced (after kinds.For (after kinds.All (after kinds.Access (k c))))))) ts
unfolding rows_at
rows_on w k ts =
    after_on kinds.Rows _ k (after kinds.Where (seq (cond_at w) (λ c. after kinds.Enforced (after kinds.For (after kinds.All (after kinds.Access (k c)))))))
    (after_on kinds.Where _ k (seq (cond_at w) (λ c. after kinds.Enforced (after kinds.For (after kinds.All (after kinds.Access (k c))))))
    (then_on (cond_at w) _ k (λ c. after kinds.Enforced (after kinds.For (after kinds.All (after kinds.Access (k c)))))
    (λ c. after_on kinds.Enforced _ k (after kinds.For (after kinds.All (after kinds.Access (k c))))
    (after_on kinds.For _ k (after kinds.All (after kinds.Access (k c)))
    (after_on kinds.All _ k (after kinds.Access (k c))
    (means_on kinds.Access c k)))))) ts

pub masked_on : {C : Type 0} (w : Readers) (k : List ℕ × Expr → Reader C) (ts : List Token) → seq (masked_at w) k ts ≡ after kinds.Column (seq name_at (λ c. after kinds.Return (seq (case_at w) (λ v. k (c, v))))) ts
unfolding masked_at
masked_on w k ts =
    after_on kinds.Column _ k (seq name_at (λ c. after kinds.Return (seq (case_at w) (λ v. k (c, v)))))
    (then_on name_at _ k (λ c. after kinds.Return (seq (case_at w) (λ v. k (c, v))))
    (λ c. after_on kinds.Return _ k (seq (case_at w) (λ v. k (c, v)))
    (then_on (case_at w) _ k (λ v. k (c, v)) (λ v us. refl)))) ts

pub same_after : {A : Type 0} (w : Kind) (f g : Reader A) → ((ts : List Token) → f ts ≡ g ts) → (ts : List Token) → after w f ts ≡ after w g ts
same_after w f g e ts = bind_same (word w ts) (λ _. f) (λ _. g) (λ _. e)

pub same_on : {A B : Type 0} (f : Reader A) (g h : A → Reader B) → ((x : A) (ts : List Token) → g x ts ≡ h x ts) → (ts : List Token) → seq f g ts ≡ seq f h ts
same_on f g h e ts = bind_same (f ts) g h e
