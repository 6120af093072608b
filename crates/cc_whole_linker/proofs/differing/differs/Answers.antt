use Rattle.std.proofs.Common.{◌≡◌, ◌∙◌, None, refl, sym, subst}
use Rattle.std.specs.Prelude.{option_map}
use Rattle.std.specs.Option.{option_copied}
use Rattle.cc_whole_link.specs.Link.{Differs}
use Rattle.cc_whole_placed.specs.Seen.{placed_of}
use Rattle.cc_whole_linker.specs.Earlier.{Next, Passes}
use Rattle.cc_whole_linker.specs.Rules.{seen}
use Rattle.cc_whole_linker.proofs.DifferLaws.{no-truth}
use Rattle.cc_whole_linker.proofs.EarlierLaws.{differs-found, differs-passed, differs-not, none-of}
use Rattle.cc_whole_linker.proofs.differing.differs.Goals as goal

pub loop-other-init : goal.loop-other-init
loop-other-init c =
    let p = placed_of c.args.placed.now in
    let items : c.of-left.result.items ≡ seen c.args.before.now = c.of-left.ensures.items in
    record {
      same = c.of-left.ensures.name;
      rest = ((λ d. subst (λ l. Differs l p) (sym items) d), (λ d. subst (λ l. Differs l p) items d));
    }

pub returns-then-differs_from : goal.returns-then-differs_from
returns-then-differs_from c =
    let p = placed_of c.args.placed.now in
    let passes : Passes c.loop-other.left (placed_of c.in-Some.other.now) c.next.new.self =
    subst (λ r. Next c.loop-other.left (option_map placed_of (option_copied r)) c.next.new.self) c.in-Some.is c.next.ensures in
    let d = differs-found p c.loop-other.left c.next.new.self c.loop-other.invariant.same (placed_of c.in-Some.other.now) passes (c.differs_from.ensures.0 c.if-differs_from.true) in
    ((λ t. c.loop-other.invariant.rest.1 d), (λ x. refl))

pub loop-other-preserved : goal.loop-other-preserved
loop-other-preserved c =
    let p = placed_of c.args.placed.now in
    let passes : Passes c.loop-other.left (placed_of c.in-Some.other.now) c.next.new.self =
    subst (λ r. Next c.loop-other.left (option_map placed_of (option_copied r)) c.next.new.self) c.in-Some.is c.next.ensures in
    let step = differs-passed p c.loop-other.left c.next.new.self c.loop-other.invariant.same (placed_of c.in-Some.other.now) passes
    (λ d. no-truth (sym c.if-differs_from.false ∙ c.differs_from.ensures.1 d)) in
    record {
      same = passes.same_name ∙ c.loop-other.invariant.same;
      rest = ((λ d. step.0 (c.loop-other.invariant.rest.0 d)), (λ d. c.loop-other.invariant.rest.1 (step.1 d)));
    }

pub returns : goal.returns
returns c =
    let p = placed_of c.args.placed.now in
    let none : Next c.loop-other.left None c.next.new.self =
    subst (λ r. Next c.loop-other.left (option_map placed_of (option_copied r)) c.next.new.self) (none-of c.next.result c.in_default.not-Some) c.next.ensures in
    ((λ t. absurd (no-truth t)), (λ d. absurd (differs-not p c.loop-other.left c.next.new.self c.loop-other.invariant.same none (c.loop-other.invariant.rest.0 d))))
