use Rattle.std.proofs.Common.{◌∙◌, Bool, None, ap, sym, subst}
use Rattle.std.specs.Prelude.{option_map}
use Rattle.std.specs.List.{list_any}
use Rattle.std.specs.Option.{option_copied}
use Rattle.cc_whole_link.specs.Link.{other_type}
use Rattle.cc_whole_link.specs.Placed.{Placed, its_name}
use Rattle.cc_whole_placed.specs.Seen.{placed_of}
use Rattle.cc_whole_linker.specs.Earlier.{Next, Passes}
use Rattle.cc_whole_linker.proofs.EarlierLaws.{found, passed, ended, none-of, other_type-by_name}
use Rattle.cc_whole_linker.proofs.types.any_other_type.Goals as goal

abbrev test : Placed → Placed → Bool
test p = other_type p

pub loop-other-init : goal.loop-other-init
loop-other-init c = record { same = c.of-left.ensures.name; rest = ap (list_any (test (placed_of c.args.placed.now))) c.of-left.ensures.items }

pub returns-then-other_type : goal.returns-then-other_type
returns-then-other_type c =
    let p = placed_of c.args.placed.now in
    let passes : Passes c.loop-other.left (placed_of c.in-Some.other.now) c.next.new.self =
    subst (λ r. Next c.loop-other.left (option_map placed_of (option_copied r)) c.next.new.self) c.in-Some.is c.next.ensures in
    sym (sym c.loop-other.invariant.rest
    ∙ found (test p) (its_name p) (other_type-by_name p) c.loop-other.left c.next.new.self (placed_of c.in-Some.other.now) passes (sym c.other_type.ensures ∙ c.if-other_type.true))

pub loop-other-preserved : goal.loop-other-preserved
loop-other-preserved c =
    let p = placed_of c.args.placed.now in
    let passes : Passes c.loop-other.left (placed_of c.in-Some.other.now) c.next.new.self =
    subst (λ r. Next c.loop-other.left (option_map placed_of (option_copied r)) c.next.new.self) c.in-Some.is c.next.ensures in
    record {
      same = passes.same_name ∙ c.loop-other.invariant.same;
      rest =
          passed (test p) (its_name p) (other_type-by_name p) c.loop-other.left c.next.new.self (placed_of c.in-Some.other.now) passes c.loop-other.invariant.same
          (sym c.other_type.ensures ∙ c.if-other_type.false)
          ∙ c.loop-other.invariant.rest;
    }

pub returns : goal.returns
returns c =
    let p = placed_of c.args.placed.now in
    let none : Next c.loop-other.left None c.next.new.self =
    subst (λ r. Next c.loop-other.left (option_map placed_of (option_copied r)) c.next.new.self) (none-of c.next.result c.in_default.not-Some) c.next.ensures in
    sym (sym c.loop-other.invariant.rest ∙ ended (test p) (its_name p) (other_type-by_name p) c.loop-other.left c.next.new.self c.loop-other.invariant.same none)
