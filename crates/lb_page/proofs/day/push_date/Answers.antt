use Rattle.std.proofs.Common.{◌≡◌, ◌++◌, sym, ap, ◌∙◌, List, ℕ, subst, arith, string_bytes, unsigned_abs, to_z-of_z, OnOk}
use Rattle.std.proofs.lemmas.Int.{ints}
use Rattle.std.proofs.lemmas.List.{append-nil}
use Rattle.lb_tok.specs.Dates.{date_text, day_text}
use Rattle.jiff_core.specs.Calendar.{days_from_civil}
use Rattle.lb_page.proofs.Pages.{too_early, too_late, date_parts}
use Rattle.lb_page.proofs.day.push_date.Goals as goal

pub returns-then-day-ltminus719162 : goal.returns-then-day-ltminus719162
returns-then-day-ltminus719162 c = sym (append-nil (string_bytes c.args.out.now)) ∙ ap (λ (u : List ℕ). string_bytes c.args.out.now ++ u) (sym (too_early c.args.day (omega (arith, ints, c.if-day-ltminus719162.true))))

pub returns-then-day-gt2932896 : goal.returns-then-day-gt2932896
returns-then-day-gt2932896 c = sym (append-nil (string_bytes c.args.out.now)) ∙ ap (λ (u : List ℕ). string_bytes c.args.out.now ++ u) (sym (too_late c.args.day (omega (arith, ints, c.if-day-gt2932896.true))))

pub returns : goal.returns
returns c =
    let n : days_from_civil c.civil-year.result.0 (unsigned_abs c.civil-year.result.1) (unsigned_abs c.civil-year.result.2) ≡ c.args.day = grind (arith, to_z-of_z) in
    let y : c.unsigned_abs.result ≡ unsigned_abs c.civil-year.result.0 = grind (arith, to_z-of_z) in
    let m : c.unsigned_abs-2.result ≡ unsigned_abs c.civil-year.result.1 = grind (arith, to_z-of_z) in
    let d : c.unsigned_abs-3.result ≡ unsigned_abs c.civil-year.result.2 = grind (arith, to_z-of_z) in
    let e : day_text c.unsigned_abs.result c.unsigned_abs-2.result c.unsigned_abs-3.result ≡ date_text c.args.day = rw (y, m, d) (sym (date_parts c.args.day c.civil-year.result.0 c.civil-year.result.1 c.civil-year.result.2 c.civil-year.ensures.calendar n (omega (arith, ints, c.if-day-ltminus719162.false)))) in
    subst (λ (u : List ℕ). OnOk c.push_parts.result (string_bytes c.push_parts.new.out ≡ string_bytes c.args.out.now ++ u)) e c.push_parts.ensures
