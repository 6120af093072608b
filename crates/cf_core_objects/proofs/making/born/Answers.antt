use Rattle.std.proofs.Common.{◌≡◌, ◌∙◌, ℕ, false, length, refl, ap, sym, rules}
use Rattle.cf_base.specs.World.{Went}
use Rattle.cf_core.specs.Run.{Gives}
use Rattle.cf_core_objects.specs.declared.object.Cell.{Cell}
use Rattle.cf_core_objects.specs.declared.object.Objects.{Objects}
use Rattle.cf_core_objects.specs.Store.{state_of}
use Rattle.cf_core_objects.proofs.MadeLaws.{born-goes}
use Rattle.cf_core_objects.proofs.making.born.Goals as goal

pub returns : goal.returns
returns c = λ T e w.
    let x = c.args.objects.now in
    let n : c.len-object.result ≡ length x.cells.items = search rules in
    let cell : Cell = record { shape = c.args.shape; bounds = c.args.bounds; storage = c.args.storage; log = c.new-log.result; is_gone = false } in
    let new : Objects = record { alloc = x.alloc; cells = c.push.new.self; literals = x.literals; reached = x.reached } in
    born-goes T e x new cell w c.in_ok-push.ensures.items (record { literals = refl; reached = refl }) c.new-log.ensures.items refl
    ∙ ap (λ (k : ℕ). Went (Gives k (state_of T e new)) w) (sym n)
