use Rattle.std.proofs.Common.{◌≡◌, ◌∙◌, refl, false}
use Rattle.cf_core.specs.FromTypes.{Tables}
use Rattle.cf_core_objects.specs.declared.object.Cell.{Cell}
use Rattle.cf_core_objects.specs.declared.object.Storage.TheVariants as storage
use Rattle.cf_core_objects.proofs.MadeLaws.{if-ok, statics-push, zeroed-cell, made_of, zeroed_of}
use Rattle.cf_core_objects.proofs.making.+push_statics.Goals as goal
use Rattle.std.specs.Prelude.{◌++◌}

pub returns-in_ok-push-in-Some : goal.returns-in_ok-push-in-Some
returns-in_ok-push-in-Some t c =
    let first = c.in-Some.first.now in
    let cell : Cell = record { shape = first.ty.shape; bounds = first.ty.bounds; storage = storage.Permanent; log = c.new.result; is_gone = false } in
    if-ok {P = λ u. (T : Tables) → made_of T c.push_statics.new.cells.items ≡ made_of T c.push.new.self.items ++ zeroed_of T c.in-Some.rest.now}
    {Q = λ u. (T : Tables) → made_of T c.push_statics.new.cells.items ≡ made_of T c.args.cells.now.items ++ zeroed_of T c.args.statics.now}
    c.push_statics.result
    (λ u h T. statics-push T c.args.cells.now.items cell first c.args.statics.now c.in-Some.rest.now c.push.new.self.items c.push_statics.new.cells.items c.in-Some.ensures.cases.0
    (zeroed-cell T cell first refl refl refl c.new.ensures.items refl) c.in_ok-push-in-Some.ensures.items (h T))
    c.push_statics.ensures
