-- The place of a node in the text.
use Rattle.std.specs.Prelude.{ℕ}
use Rattle.cf_core.specs.declared.node.Core.{Core as Node, fold-Core}
use Rattle.cf_core.specs.declared.node.Core.TheOpen.{Core-F}
use Rattle.cf_core.specs.declared.node.PartStart.{PartStart-F}

abbrev pub place_step : Core-F ℕ (Unit {0}) → ℕ
place_step (Core-F.Number at z) = at
place_step (Core-F.Text at j bytes) = at
place_step (Core-F.This at) = at
place_step (Core-F.Local at i) = at
place_step (Core-F.Static at n t) = at
place_step (Core-F.Function at n t) = at
place_step (Core-F.Member at e i) = at
place_step (Core-F.Read at e) = at
place_step (Core-F.Address at e) = at
place_step (Core-F.Dereference at e) = at
place_step (Core-F.Decay at e) = at
place_step (Core-F.Index at a b) = at
place_step (Core-F.Convert at t e) = at
place_step (Core-F.Up at path e) = at
place_step (Core-F.Down at c path e) = at
place_step (Core-F.FromVoid at t e) = at
place_step (Core-F.ToMember at path e) = at
place_step (Core-F.DataPointer at i) = at
place_step (Core-F.FunctionPointer at t) = at
place_step (Core-F.Through at a b) = at
place_step (Core-F.Operate at op k a b) = at
place_step (Core-F.Unary at op k e) = at
place_step (Core-F.Not at e) = at
place_step (Core-F.And at a b) = at
place_step (Core-F.Or at a b) = at
place_step (Core-F.PointerOperate at op a b) = at
place_step (Core-F.Conditional at c a b) = at
place_step (Core-F.Comma at es) = at
place_step (Core-F.Store at a b) = at
place_step (Core-F.Update at a c b) = at
place_step (Core-F.Increment at is_postfix c e) = at
place_step (Core-F.Assign at t a b es) = at
place_step (Core-F.Temporary at t e) = at
place_step (Core-F.Call at f t object es) = at
place_step (Core-F.VirtualCall at m t e es) = at
place_step (Core-F.PointerCall at object e t es) = at
place_step (Core-F.New at t e) = at
place_step (Core-F.NewArray at t n e) = at
place_step (Core-F.Delete at t e) = at
place_step (Core-F.DeleteArray at t e) = at
place_step (Core-F.Build at f t es) = at
place_step (Core-F.Copy at t e es) = at
place_step (Core-F.Each at e) = at
place_step (Core-F.List at es rest) = at
place_step (Core-F.Characters at bytes) = at
place_step (Core-F.Bind at h e) = at
place_step (Core-F.Zeros at) = at
place_step (Core-F.Blank at) = at
place_step (Core-F.Full at e) = at
place_step (Core-F.Block at es) = at
place_step (Core-F.Sequence at es) = at
place_step (Core-F.Declare at i t e) = at
place_step (Core-F.Once at n e) = at
place_step (Core-F.If at c a b) = at
place_step (Core-F.Loop at _ c e s) = at
place_step (Core-F.Switch at e es) = at
place_step (Core-F.Case at z) = at
place_step (Core-F.Default at) = at
place_step (Core-F.Break at) = at
place_step (Core-F.Continue at) = at
place_step (Core-F.Return at e) = at
place_step (Core-F.Parts at ps s) = at

abbrev pub unplaced : PartStart-F ℕ (Unit {0}) → Unit {0}
unplaced x = tt

abbrev pub place : Node → ℕ
place = fold-Core ℕ (Unit {0}) place_step unplaced
