-- The answer has its cause, and its last line is written behind it.
use Rattle.std.proofs.Common.{◌≡◌, ◌∙◌, ℕ, List, ap, subst, map, string_bytes}
use Rattle.cfront.specs.Answer.{EndsWith}
use Rattle.cfront.specs.Cause.{GoCause}
use Rattle.cfront.specs.LastLine.{last_line, file_name}
use Rattle.cfront.specs.Outside.{outside}
use Rattle.cfront.proofs.Causes.{answers, go_counts}
use Rattle.cfront.proofs.go.go_with.Goals as goal

pub returns-in-Ok : goal.returns-in-Ok
returns-in-Ok g c =
    let P : List (List ℕ) → Type 0 = λ names. EndsWith (last_line names c.in-Ok.answer.position c.in-Ok.answer.outcome) c.in-Ok.answer.outcome
    c.finished.result (g.E.Sink.stream c.gone.new.err) (g.E.Sink.stream c.finished.new.err) in
    let files = g.F.Files.disk c.gone.new.files in
    let input = g.I.Source.stream c.gone.new.input in
    let out = g.O.Sink.stream c.gone.new.out in
    let err = g.E.Sink.stream c.gone.new.err in
    let old = outside (g.F.Files.disk c.args.files.now) (g.I.Source.stream c.args.input.now) (g.O.Sink.stream c.args.out.now) (g.E.Sink.stream c.args.err.now) in
    let Q : List ℕ → Type 0 = λ file. GoCause file c.args.limits old (outside files input out err) c.in-Ok.answer.position c.in-Ok.answer.outcome in
    let same : c.as_slice-names.result.now ≡ c.args.names.now.items = c.as_slice-names.ensures.value in
    let caused = subst Q (c.first_name.ensures ∙ ap (λ names. file_name (map string_bytes names) 1) same) c.in-Ok.ensures.leaves in
    let names = map string_bytes c.args.names.now.items in
    answers (GoCause (file_name names 1) c.args.limits) names old files input out err (g.E.Sink.stream c.finished.new.err) c.in-Ok.answer.position
    c.in-Ok.answer.outcome c.finished.result caused
    (go_counts (file_name names 1) c.args.limits old (outside files input out err) c.in-Ok.answer.position c.in-Ok.answer.outcome caused)
    (subst P (ap (map string_bytes) same) c.finished.ensures) c.in-Ok.ensures.told
