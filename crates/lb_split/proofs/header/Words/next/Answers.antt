use Rattle.std.proofs.Common.{◌≡◌, [], ◌∷◌, sym, ap, ◌∙◌, drop}
use Rattle.lb_split.specs.Headers.{words}
use Rattle.lb_split.proofs.Worded.{no_word, some_word}
use Rattle.lb_split.proofs.header.Words.next.Goals as goal

pub returns-then-is_empty : goal.returns-then-is_empty
returns-then-is_empty c =
    let none = no_word c.self.inside.rest.now c.tail-text.result.now c.split_at.result.0.now c.space_len.result c.word_len-len.result
    c.space_len.ensures.value c.tail-text.ensures c.word_len-len.ensures.value c.split_at.ensures.front (sym c.is_empty.ensures ∙ c.if-is_empty.true) in
    let old : words c.self.inside.rest.now ≡ [] = none.0 in
    let left : c.args.self.now ≡ [] = cc in
    (left, ap words c.split_at.ensures.back ∙ none.1)

pub returns : goal.returns
returns c =
    let some = some_word c.self.inside.rest.now c.tail-text.result.now c.split_at.result.0.now c.space_len.result c.word_len-len.result
    c.space_len.ensures.value c.tail-text.ensures c.word_len-len.ensures.value c.split_at.ensures.front (sym c.is_empty.ensures ∙ c.if-is_empty.false) in
    let old : words c.self.inside.rest.now ≡ c.split_at.result.0.now ∷ words (drop c.word_len-len.result c.tail-text.result.now) = some in
    let left : words c.split_at.result.1.now ≡ words (drop c.word_len-len.result c.tail-text.result.now) = ap words c.split_at.ensures.back in
    cc
