use Rattle.std.proofs.Common.{◌∙◌, ◌&&◌, Bool, true, false, None, ap, sym, subst}
use Rattle.std.specs.Prelude.{option_map}
use Rattle.std.specs.List.{list_any}
use Rattle.std.specs.Option.{option_copied}
use Rattle.cc_whole_link.specs.Placed.{Placed, its_name, defines_named, is_shared}
use Rattle.cc_whole_placed.specs.Seen.{placed_of}
use Rattle.cc_whole_linker.specs.Earlier.{Next, Passes}
use Rattle.cc_whole_linker.specs.Rules.{seen}
use Rattle.cc_whole_linker.proofs.EarlierLaws.{found, passed, ended, none-of, again-by_name, repeats-is}
use Rattle.cc_whole_linker.proofs.kept.repeats.Goals as goal

abbrev test : Placed → Placed → Bool
test p = λ b. defines_named (its_name p) b && (is_shared p && is_shared b)

pub loop-other-init : goal.loop-other-init
loop-other-init c = record { same = c.of-left.ensures.name; rest = ap (list_any (test (placed_of c.args.placed.now))) c.of-left.ensures.items }

pub returns-then-is_again : goal.returns-then-is_again
returns-then-is_again c =
    let p = placed_of c.args.placed.now in
    let passes : Passes c.loop-other.left (placed_of c.in-Some.other.now) c.next.new.self =
    subst (λ r. Next c.loop-other.left (option_map placed_of (option_copied r)) c.next.new.self) c.in-Some.is c.next.ensures in
    sym (repeats-is (seen c.args.before.now) p true (sym c.is_definition.ensures ∙ c.if-not-is_definition.false) (sym c.loop-other.invariant.rest
    ∙ found (test p) (its_name p) (again-by_name p) c.loop-other.left c.next.new.self (placed_of c.in-Some.other.now) passes (sym c.is_again.ensures ∙ c.if-is_again.true)))

pub loop-other-preserved : goal.loop-other-preserved
loop-other-preserved c =
    let p = placed_of c.args.placed.now in
    let passes : Passes c.loop-other.left (placed_of c.in-Some.other.now) c.next.new.self =
    subst (λ r. Next c.loop-other.left (option_map placed_of (option_copied r)) c.next.new.self) c.in-Some.is c.next.ensures in
    record {
      same = passes.same_name ∙ c.loop-other.invariant.same;
      rest =
          passed (test p) (its_name p) (again-by_name p) c.loop-other.left c.next.new.self (placed_of c.in-Some.other.now) passes c.loop-other.invariant.same
          (sym c.is_again.ensures ∙ c.if-is_again.false)
          ∙ c.loop-other.invariant.rest;
    }

pub returns : goal.returns
returns c =
    let p = placed_of c.args.placed.now in
    let none : Next c.loop-other.left None c.next.new.self =
    subst (λ r. Next c.loop-other.left (option_map placed_of (option_copied r)) c.next.new.self) (none-of c.next.result c.in_default.not-Some) c.next.ensures in
    sym (repeats-is (seen c.args.before.now) p false (sym c.is_definition.ensures ∙ c.if-not-is_definition.false)
    (sym c.loop-other.invariant.rest ∙ ended (test p) (its_name p) (again-by_name p) c.loop-other.left c.next.new.self c.loop-other.invariant.same none))
