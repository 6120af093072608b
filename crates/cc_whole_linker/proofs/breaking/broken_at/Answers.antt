use Rattle.std.proofs.Common.{◌≡◌, ◌∙◌, ap, sym, subst}
use Rattle.std.specs.Prelude.{find}
use Rattle.std.proofs.lemmas.Result.{IfOk-weaker}
use Rattle.cc_whole_link.specs.Link.{Breaks, undefined_use}
use Rattle.std.specs.Option.{option_copied}
use Rattle.cc_whole_placed.specs.Seen.{placed_of}
use Rattle.cc_whole_linker.specs.Rules.{seen, is_undefined, first_of}
use Rattle.cc_whole_linker.proofs.BreakLaws.{undefined_is, breaks}
use Rattle.cc_whole_linker.proofs.breaking.broken_at.Goals as goal

pub returns : goal.returns
returns c =
    let all = seen c.args.all.now in
    let before = seen c.args.before.now in
    let p = placed_of c.args.placed.now in
    let d = c.differs-differ.result in
    let t = c.any_other_type-other_type.result in
    let u = option_copied c.undefined_use-undefined.result in
    let undefined : undefined_use all p ≡ u =
    sym (undefined_is all p) ∙ ap (λ names. find (is_undefined names) p.uses) (sym c.requires.names) ∙ ap (find (is_undefined c.args.defined.now)) (sym c.as_slice.ensures)
    ∙ sym c.undefined_use-undefined.ensures in
    let found = breaks all before p u c.in_ok-twice.twice d t undefined (sym c.in_ok-twice.ensures) c.differs-differ.ensures (sym c.any_other_type-other_type.ensures) in
    IfOk-weaker c.first_of.result _ _
    (λ b e. subst (Breaks all before p) (sym (e ∙ ap (λ n. first_of n u c.in_ok-twice.twice d t) c.name_of.ensures)) found)
    c.first_of.ensures
