use Rattle.std.proofs.Common.{subst, Err, length}
use Rattle.cc_whole_reading.specs.declared.constants.Constants.TheVariants as constants
use Rattle.cc_whole_reading.specs.Constants.{keeps}
use Rattle.cc_whole_read_items.specs.Passes.{ReadsWhole}
use Rattle.cc_whole_read_items.specs.ReadItems.{whole}
use Rattle.cc_whole_read_items.proofs.WholeLaws.{read_exact, refused_once, unfit_once}
use Rattle.cc_whole_read_items.proofs.tokens.items_of.Goals as goal

pub returns-in-Ok : goal.returns-in-Ok
returns-in-Ok c = read_exact c.args.tokens.now c.in-Ok.items c.in-Ok.ensures

pub returns-in-Err-NotC : goal.returns-in-Err-NotC
returns-in-Err-NotC c =
    rw c.place.ensures (refused_once constants.Exact c.args.tokens.now c.in-Err-NotC.left
    (subst (λ e. ReadsWhole (whole (keeps constants.Exact) (length c.args.tokens.now) c.args.tokens.now) (Err e)) c.in-Err-NotC.field-0-is c.in-Err-NotC.ensures))

pub refusal-requires : goal.refusal-requires
refusal-requires c =
    unfit_once c.args.tokens.now c.in-Err-Unfit.field-0-0
    (subst (λ e. ReadsWhole (whole (keeps constants.Exact) (length c.args.tokens.now) c.args.tokens.now) (Err e)) c.in-Err-Unfit.field-0-is c.in-Err-Unfit.ensures)
