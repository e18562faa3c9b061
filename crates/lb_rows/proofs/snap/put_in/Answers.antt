use Rattle.std.proofs.Common.{◌≡◌, ◌∙◌, ap, subst, arith, ℕ, List, ◌<◌, ◌≤◌, Some}
use Rattle.std.specs.List.{position_or_len}
use Rattle.std.specs.Arc.{arc_value}
use Rattle.lb_rows.specs.Kept.{holds}
use Rattle.lb_rows.specs.Tables.{Version}
use Rattle.lb_rows.proofs.There.{put_in_place, put_last, room_for, written}
use Rattle.lb_rows.proofs.snap.put_in.Goals as goal

pub push-requires : goal.push-requires
push-requires c =
    let name : c.name.result.now ≡ (arc_value c.args.stamped.version).name = c.name.ensures ∙ ap (λ (v : Version). v.name) c.deref.ensures in
    let at = c.place_of-place.ensures ∙ ap (λ (n : List ℕ). position_or_len (holds n) c.as_slice.result.now) name ∙ ap (position_or_len (holds (arc_value c.args.stamped.version).name)) c.as_slice.ensures.value in (
      omega arith,
      room_for (arc_value c.args.stamped.version).name c.args.versions.now.items c.place_of-place.result _ c.args.stamped c.requires.there at
          (subst (λ (k : ℕ). k ≤ c.place_of-place.result) c.len.ensures.value c.if-place-len.false) c.requires.room,
    )

pub returns-then-place-len-clause-there : goal.returns-then-place-len-clause-there
returns-then-place-len-clause-there c =
    let name : c.name.result.now ≡ (arc_value c.args.stamped.version).name = c.name.ensures ∙ ap (λ (v : Version). v.name) c.deref.ensures in
    let at = c.place_of-place.ensures ∙ ap (λ (n : List ℕ). position_or_len (holds n) c.as_slice.result.now) name ∙ ap (position_or_len (holds (arc_value c.args.stamped.version).name)) c.as_slice.ensures.value in
    (put_in_place (arc_value c.args.stamped.version).name c.args.versions.now.items _ c.place_of-place.result c.args.stamped c.requires.there at
    (subst (λ (k : ℕ). c.place_of-place.result < k) c.len.ensures.value c.if-place-len.true)
    (written c.args.versions.now.items c.deref_mut.result.now c.place_of-place.result (Some c.args.stamped) c.deref_mut.ensures.value)).0

pub returns-then-place-len-clause-put : goal.returns-then-place-len-clause-put
returns-then-place-len-clause-put c =
    let name : c.name.result.now ≡ (arc_value c.args.stamped.version).name = c.name.ensures ∙ ap (λ (v : Version). v.name) c.deref.ensures in
    let at = c.place_of-place.ensures ∙ ap (λ (n : List ℕ). position_or_len (holds n) c.as_slice.result.now) name ∙ ap (position_or_len (holds (arc_value c.args.stamped.version).name)) c.as_slice.ensures.value in
    (put_in_place (arc_value c.args.stamped.version).name c.args.versions.now.items _ c.place_of-place.result c.args.stamped c.requires.there at
    (subst (λ (k : ℕ). c.place_of-place.result < k) c.len.ensures.value c.if-place-len.true)
    (written c.args.versions.now.items c.deref_mut.result.now c.place_of-place.result (Some c.args.stamped) c.deref_mut.ensures.value)).1

pub returns-else-place-len-clause-there : goal.returns-else-place-len-clause-there
returns-else-place-len-clause-there c =
    let name : c.name.result.now ≡ (arc_value c.args.stamped.version).name = c.name.ensures ∙ ap (λ (v : Version). v.name) c.deref.ensures in
    let at = c.place_of-place.ensures ∙ ap (λ (n : List ℕ). position_or_len (holds n) c.as_slice.result.now) name ∙ ap (position_or_len (holds (arc_value c.args.stamped.version).name)) c.as_slice.ensures.value in
    (put_last (arc_value c.args.stamped.version).name c.args.versions.now.items c.push.new.self.items c.place_of-place.result c.args.stamped c.requires.there at
    (subst (λ (k : ℕ). k ≤ c.place_of-place.result) c.len.ensures.value c.if-place-len.false) c.push.ensures.items).0

pub returns-else-place-len-clause-put : goal.returns-else-place-len-clause-put
returns-else-place-len-clause-put c =
    let name : c.name.result.now ≡ (arc_value c.args.stamped.version).name = c.name.ensures ∙ ap (λ (v : Version). v.name) c.deref.ensures in
    let at = c.place_of-place.ensures ∙ ap (λ (n : List ℕ). position_or_len (holds n) c.as_slice.result.now) name ∙ ap (position_or_len (holds (arc_value c.args.stamped.version).name)) c.as_slice.ensures.value in
    (put_last (arc_value c.args.stamped.version).name c.args.versions.now.items c.push.new.self.items c.place_of-place.result c.args.stamped c.requires.there at
    (subst (λ (k : ℕ). k ≤ c.place_of-place.result) c.len.ensures.value c.if-place-len.false) c.push.ensures.items).1
