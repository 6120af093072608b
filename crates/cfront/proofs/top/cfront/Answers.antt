-- The answer has its cause, and its last line is written behind it.
use Rattle.std.proofs.Common.{ℕ, List, subst, map, string_bytes}
use Rattle.cfront.specs.Words.{default_limits, files_of}
use Rattle.cfront.specs.Answer.{EndsWith, WordsCause}
use Rattle.cfront.specs.Outside.{outside}
use Rattle.cfront.specs.LastLine.{last_line}
use Rattle.cfront.proofs.Causes.{answers, words_counts}
use Rattle.cfront.proofs.top.cfront.Goals as goal

pub returns-in-Ok : goal.returns-in-Ok
returns-in-Ok g c =
    let P : List (List ℕ) → Type 0 = λ names. EndsWith (last_line names c.in-Ok.answer.position c.in-Ok.answer.outcome) c.in-Ok.answer.outcome
    c.finished.result (g.E.Sink.stream c.answered.new.err) (g.E.Sink.stream c.finished.new.err) in
    let words = map string_bytes c.args.words.now.items in
    let files = g.F.Files.disk c.answered.new.files in
    let input = g.I.Source.stream c.answered.new.input in
    let out = g.O.Sink.stream c.answered.new.out in
    let err = g.E.Sink.stream c.answered.new.err in
    let old = outside (g.F.Files.disk c.args.files.now) (g.I.Source.stream c.args.input.now) (g.O.Sink.stream c.args.out.now) (g.E.Sink.stream c.args.err.now) in
    answers (WordsCause words default_limits) (files_of words) old files input out err (g.E.Sink.stream c.finished.new.err) c.in-Ok.answer.position
    c.in-Ok.answer.outcome c.finished.result c.in-Ok.ensures.leaves
    (words_counts words default_limits old (outside files input out err) c.in-Ok.answer.position c.in-Ok.answer.outcome c.in-Ok.ensures.leaves)
    (subst P c.file_names.ensures c.finished.ensures) c.in-Ok.ensures.told
