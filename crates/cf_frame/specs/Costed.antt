-- The costs of a node, made from those of its parts in one walk over the tree.
use Rattle.std.specs.Prelude.{ℕ, ◌+◌, ◌*◌, min, max, List, [], ◌∷◌, Option, Some, None}
use Rattle.cf_core.specs.declared.operators.LoopForm.{LoopForm}
use Rattle.cf_core.specs.declared.operators.LoopForm.TheVariants as form
use Rattle.cf_core.specs.declared.node.Core.{Core, fold-Core}
use Rattle.cf_core.specs.declared.node.Core.TheOpen.{Core-F}
use Rattle.cf_core.specs.declared.node.PartStart.{PartStart, PartStart-F, fold-PartStart}
use Rattle.cf_frame.specs.declared.costs.Costs.{Costs}

-- the greatest number of 64 bits, at which sums end
abbrev pub most : ℕ
most = 18446744073709551615

abbrev pub up_to_most : ℕ → ℕ
up_to_most n = min n most

unfoldable pub nothing : Costs
nothing = record { nodes = 0; loops = 0; dearest = 0; whole = 0; start = 0 }

unfoldable pub both : Costs → Costs → Costs
both a b = record {
  nodes = up_to_most (a.nodes + b.nodes);
  loops = up_to_most (a.loops + b.loops);
  dearest = max a.dearest b.dearest;
  whole = 0;
  start = max a.start b.start;
}

-- the bytes of so many nodes
abbrev pub priced : ℕ → ℕ
priced n = up_to_most (n * 32)

unfoldable pub around : Costs → Costs
around c = record c { nodes = up_to_most (c.nodes + 1); whole = priced (up_to_most (c.nodes + 1)); start = priced (up_to_most (c.nodes + 1)) }

unfoldable pub with_expression : ℕ → Costs → Costs
with_expression n c = record c { dearest = max n c.dearest }

unfoldable pub with_loop : Costs → Costs
with_loop c = record c { loops = up_to_most (c.loops + 8) }

unfoldable pub with_start : ℕ → Costs → Costs
with_start n c = record c { start = n }

-- parts one after another, behind what came before
abbrev pub all_after : Costs → List Costs → Costs
all_after total [] = total
all_after total (c ∷ cs) = all_after (both total c) cs

abbrev pub all : List Costs → Costs
all cs = all_after nothing cs

abbrev pub maybe : Option Costs → Costs
maybe None = nothing
maybe (Some c) = c

-- each form whose parts hold full expressions

unfoldable pub blank : Costs
blank = record (around nothing) { whole = 0; start = 0 }

unfoldable pub each : Costs → Costs
each c = with_start c.start (around c)

unfoldable pub list : Costs → Costs → Costs
list starts rest = let parts = both starts rest in with_start parts.start (around parts)

unfoldable pub expression : Costs → Costs
expression e = with_expression e.whole (around e)

unfoldable pub initialiser : Costs → Costs
initialiser e = with_expression e.start (around e)

unfoldable pub choice : Costs → Costs → Costs → Costs
choice c a b = with_expression c.whole (around (both c (both a b)))

unfoldable pub turns : LoopForm → Costs → Costs → Costs → Costs
turns form.While c step body = with_expression (max c.whole step.whole) (around (both c (both step body)))
turns form.Do c step body = with_loop (with_expression (max c.whole step.whole) (around (both c (both step body))))
turns form.For c step body = with_loop (with_expression (max c.whole step.whole) (around (both c (both step body))))

unfoldable pub selection : Costs → Costs → Costs
selection e body = with_loop (with_expression e.whole (around (both e body)))

unfoldable pub building : Costs → Costs → Costs
building starts body = with_expression starts.start (around (both starts body))

abbrev pub step : Core-F Costs Costs → Costs
step (Core-F.Number at z) = around nothing
step (Core-F.Text at j bytes) = around nothing
step (Core-F.This at) = around nothing
step (Core-F.Local at i) = around nothing
step (Core-F.Static at n t) = around nothing
step (Core-F.Function at n t) = around nothing
step (Core-F.Member at e i) = around e
step (Core-F.Read at e) = around e
step (Core-F.Address at e) = around e
step (Core-F.Dereference at e) = around e
step (Core-F.Decay at e) = around e
step (Core-F.Index at a b) = around (both a b)
step (Core-F.Convert at t e) = around e
step (Core-F.Up at path e) = around e
step (Core-F.Down at c path e) = around e
step (Core-F.FromVoid at t e) = around e
step (Core-F.ToMember at path e) = around e
step (Core-F.DataPointer at i) = around nothing
step (Core-F.FunctionPointer at t) = around nothing
step (Core-F.Through at a b) = around (both a b)
step (Core-F.Operate at op k a b) = around (both a b)
step (Core-F.Unary at op k e) = around e
step (Core-F.Not at e) = around e
step (Core-F.And at a b) = around (both a b)
step (Core-F.Or at a b) = around (both a b)
step (Core-F.PointerOperate at op a b) = around (both a b)
step (Core-F.Conditional at c a b) = around (both c (both a b))
step (Core-F.Comma at es) = around (all es)
step (Core-F.Store at a b) = around (both a b)
step (Core-F.Update at a c b) = around (both a b)
step (Core-F.Increment at is_postfix c e) = around e
step (Core-F.Assign at t a b es) = around (both a (both b (all es)))
step (Core-F.Temporary at t e) = around e
step (Core-F.Call at f t object es) = around (both (maybe object) (all es))
step (Core-F.VirtualCall at m t e es) = around (both e (all es))
step (Core-F.PointerCall at object e t es) = around (both (maybe object) (both e (all es)))
step (Core-F.New at t e) = around e
step (Core-F.NewArray at t n e) = around (both n e)
step (Core-F.Delete at t e) = around e
step (Core-F.DeleteArray at t e) = around e
step (Core-F.Build at f t es) = around (all es)
step (Core-F.Copy at t e es) = around (both e (all es))
step (Core-F.Each at e) = each e
step (Core-F.List at es rest) = list (all es) rest
step (Core-F.Characters at bytes) = around nothing
step (Core-F.Bind at h e) = around e
step (Core-F.Zeros at) = around nothing
step (Core-F.Blank at) = blank
step (Core-F.Full at e) = expression e
step (Core-F.Block at es) = around (all es)
step (Core-F.Sequence at es) = around (all es)
step (Core-F.Declare at i t e) = initialiser e
step (Core-F.Once at n e) = initialiser e
step (Core-F.If at c a b) = choice c a (maybe b)
step (Core-F.Loop at f c e s) = turns f (maybe c) (maybe e) s
step (Core-F.Switch at e es) = selection e (all es)
step (Core-F.Case at z) = around nothing
step (Core-F.Default at) = around nothing
step (Core-F.Break at) = around nothing
step (Core-F.Continue at) = around nothing
step (Core-F.Return at e) = initialiser (maybe e)
step (Core-F.Parts at ps s) = building (all ps) s

abbrev pub part_step : PartStart-F Costs Costs → Costs
part_step x = x.start

abbrev pub costed : Core → Costs
costed = fold-Core Costs Costs step part_step

abbrev pub costed_part : PartStart → Costs
costed_part = fold-PartStart Costs Costs step part_step
