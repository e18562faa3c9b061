-- A journal leaves one state, and has one reply at a place: canonical texts tell statements apart.
use Rattle.std.proofs.Common.{◌≡◌, ℕ, ◌+◌, List, [], ◌∷◌, take, Some, sym, ap, subst, ◌∙◌}
use Rattle.lb_stmt.specs.declared.write.Stmt.{Stmt}
use Rattle.lb_cat.specs.declared.entry.Entry.{Entry}
use Rattle.lb_cat.specs.declared.entry.Entry.TheVariants as entries
use Rattle.lb_cat.specs.declared.reply.Reply.{Reply}
use Rattle.lb_journal.specs.State.{State, first, after, step}
use Rattle.lb_journal.specs.Journal.{Speaks}
use Rattle.lb_journal.specs.Replay.{Steps, Replies, Runs}
use Rattle.lb_journal.specs.Laws.{TextsAreTold, HasOneReplay, HasOneReply}

speaks_one : TextsAreTold → (text : List ℕ) (s t : Stmt) → Speaks text s → Speaks text t → s ≡ t
speaks_one W text s t h i = W s t h.0 i.0 (h.1 ∙ sym i.1)

steps_one : TextsAreTold → (at : ℕ) (S : State) (e : Entry) (T U : State) → Steps at S e T → Steps at S e U → T ≡ U
steps_one W at S (entries.Open user groups) T U h i = h ∙ sym i
steps_one W at S (entries.Said d) T U h i = h.2 ∙ ap (after at S d.user d.groups d.day) (speaks_one W d.text h.0 i.0 h.1 i.1) ∙ sym i.2

-- the entries leave one state
runs_one : TextsAreTold → (at : ℕ) (S : State) (J : List Entry) (T U : State) → Runs at S J T → Runs at S J U → T ≡ U
runs_one W at S [] T U h i = h ∙ sym i
runs_one W at S (e ∷ es) T U h i =
    runs_one W (at + 1) i.0 es T U (subst (λ (V : State). Runs (at + 1) V es T) (steps_one W at S e h.0 i.0 h.1 i.1) h.2) i.2

pub replay_one : HasOneReplay
replay_one W J T U h i = runs_one W 0 first J T U h i

replies_one : TextsAreTold → (S : State) (e : Entry) (r q : Reply) → Replies S e r → Replies S e q → r ≡ q
replies_one W S (entries.Open user groups) r q h i = absurd h
replies_one W S (entries.Said d) r q h i = h.2 ∙ ap (λ (s : Stmt). (step S d.user d.groups d.day s).reply) (speaks_one W d.text h.0 i.0 h.1 i.1) ∙ sym i.2

pub rep_one : HasOneReply
rep_one W J k r q h i =
    let e : h.state ≡ i.state = replay_one W (take k J) h.state i.state h.before i.before in
    let f : h.entry ≡ i.entry = (let j : Some h.entry ≡ Some i.entry = sym h.there ∙ i.there in cc) in
    replies_one W i.state i.entry r q (subst (λ (x : Entry). Replies i.state x r) f (subst (λ (S : State). Replies S h.entry r) e h.gives)) i.gives
