use Rattle.std.proofs.Common.{◌≡◌, ap, ◌∙◌, subst, ◌<◌, ◌≤◌, ◌++◌, ◌∷◌, [], length, set}
use Rattle.std.specs.List.{position_or_len}
use Rattle.std.specs.Str.{bytes_eq}
use Rattle.lb_changed.proofs.Entries.{put_in_place, put_last}
use Rattle.lb_changed.proofs.lists.with_entry.Goals as goal
use Rattle.lb_changed.proofs.lists.with_entry.Goals.{then-place-len, else-place-len+in_ok-push}

pub returns : goal.returns
returns g c =
    let is : g.row.E.Denot → _ = λ x. bytes_eq (g.E.Entry.of x) (g.E.Entry.of c.args.new) in
    let at : c.place_of-place.result ≡ position_or_len is c.args.entries.now = c.place_of-place.ensures ∙ ap (λ n. position_or_len (λ x. bytes_eq (g.E.Entry.of x) n) c.args.entries.now) c.of.ensures in
    let long : c.len.result ≡ length c.args.entries.now = c.len.ensures ∙ ap length c.in_ok-changed.ensures in
    elim c.if-place-len.branch [
      | then-place-len w ↦
          let inside : position_or_len is c.args.entries.now < length c.args.entries.now = subst (λ n. n < length c.args.entries.now) at (subst (λ n. c.place_of-place.result < n) long w.if-place-len.true) in
          w.changed-is ∙ w.set.ensures ∙ ap (λ xs. set xs c.place_of-place.result c.args.new) c.in_ok-changed.ensures ∙ ap (λ n. set c.args.entries.now n c.args.new) at ∙ put_in_place is c.args.new c.args.entries.now inside
      | else-place-len+in_ok-push w ↦
          let none : length c.args.entries.now ≤ position_or_len is c.args.entries.now = subst (λ n. length c.args.entries.now ≤ n) at (subst (λ n. n ≤ c.place_of-place.result) long w.if-place-len.false) in
          w.changed-is ∙ w.in_ok-push.ensures.ok ∙ ap (λ xs. xs ++ c.args.new ∷ []) c.in_ok-changed.ensures ∙ put_last is c.args.new c.args.entries.now none
    ]
