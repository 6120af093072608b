use Rattle.std.proofs.Common.{◌≡◌, ◌+◌, ◌<◌, rules, slice_get, get_or, nat_le, length, refl, ap, sym, ◌∙◌}
use Rattle.std.proofs.lemmas.Option.{slice_get_read}
use Rattle.cc_whole_memory.proofs.BlockLaws.{reaches, outside-live}
use Rattle.cc_whole_memory.proofs.store.Store.reach.Goals as goal

pub returns-then-is_inside-clause-ok : goal.returns-then-is_inside-clause-ok
returns-then-is_inside-clause-ok c =
    let placed : c.in-At.block < length c.deref.result.now = search rules in
    let is : c.in-Some.held.now ≡ get_or c.deref.result.now c.in-At.block c.in-Some.held.now = search rules in
    let there = ap (λ l. slice_get l c.in-At.block) (sym c.deref.ensures.value)
    ∙ slice_get_read c.deref.result.now (length c.deref.result.now) c.in-At.block c.in-Some.held.now refl placed is in
    let size : c.len.result ≡ length c.in-Some.held.now.cells.items = search rules in
    reaches c.args.at c.args.count c.args.self.now.blocks.items c.in-At.block c.in-At.offset c.in-Some.held.now c.in-At.is there c.if-not-held.false
    (ap (nat_le (c.in-At.offset + c.args.count)) (sym size) ∙ sym c.fits-is_inside.ensures ∙ c.if-is_inside.true)

pub returns-else-is_inside-clause-err : goal.returns-else-is_inside-clause-err
returns-else-is_inside-clause-err c =
    let placed : c.in-At.block < length c.deref.result.now = search rules in
    let is : c.in-Some.held.now ≡ get_or c.deref.result.now c.in-At.block c.in-Some.held.now = search rules in
    let there = ap (λ l. slice_get l c.in-At.block) (sym c.deref.ensures.value)
    ∙ slice_get_read c.deref.result.now (length c.deref.result.now) c.in-At.block c.in-Some.held.now refl placed is in
    let size : c.len.result ≡ length c.in-Some.held.now.cells.items = search rules in
    outside-live c.args.at c.args.count c.args.self.now.blocks.items c.in-At.block c.in-At.offset c.in-Some.held.now c.in-At.is there c.if-not-held.false
    (ap (nat_le (c.in-At.offset + c.args.count)) (sym size) ∙ sym c.fits-is_inside.ensures ∙ c.if-is_inside.false)
