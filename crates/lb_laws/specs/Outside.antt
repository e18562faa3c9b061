-- What a run takes from outside, besides its script: the day of each statement, and where memory runs out.
use Rattle.std.specs.Prelude.{ℕ, ◌≡◌, Bool, List, map, Option, None, Some, is_some}
use Rattle.lb_cat.specs.declared.answer.Answer.{Answer}
use Rattle.lb_cat.specs.declared.reply.Reply.{Reply}
use Rattle.lb_cat.specs.declared.reply.Reply.TheVariants as replies
use Rattle.lb_model.specs.Sections.{SectionResult}

-- of an answer that is out of memory, whether it has a place; of any other, nothing
abbrev pub shortage_at : Option ℕ → Reply → Option Bool
shortage_at place replies.NoMemory = Some (is_some place)
shortage_at place _ = None

abbrev pub shortage : Answer → Option Bool
shortage a = shortage_at a.place a.reply

-- The two runs took the same days, and the same of their lines show NOMEMORY, with a place or without: section by section, line by line.
pub record SameOutside (os ps : List SectionResult) : Type 0 where
  pub days : map (λ (o : SectionResult). o.days) os ≡ map (λ (o : SectionResult). o.days) ps
  pub memory : map (λ (o : SectionResult). map shortage o.answers) os ≡ map (λ (o : SectionResult). map shortage o.answers) ps
