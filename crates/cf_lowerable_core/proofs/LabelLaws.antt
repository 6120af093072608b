-- Labels in order, one statement after the other.
use Rattle.std.proofs.Common.{◌≡◌, ◌∙◌, ℕ, ◌<◌, ◌≤◌, ◌+◌, Bool, true, false, ◌&&◌, List, length, drop, get_or, refl, ap, sym, drop_of_length-le}
use Rattle.std.specs.Prelude.{ℤ}
use Rattle.std.specs.List.{list_all}
use Rattle.cf_name_list.proofs.ListLaws.{left_is}
use Rattle.cf_core.specs.declared.node.Core.{Core as Node}
use Rattle.cf_core.specs.declared.node.Core.TheOpen.{Core-F}
use Rattle.cf_core.specs.declared.node.Core.TheFolds.{fold-roll-Core}
use Rattle.cf_core.specs.declared.node.Core.TheVariants.{Switch, rolls-Switch}
use Rattle.cf_core.specs.Core.{Core, Cores, more, case_label, switch}
use Rattle.cf_core.specs.FromClasses.{signature_of}
use Rattle.cf_core.specs.FromTypes.{Tables}
use Rattle.cf_core.specs.View.{Started, core_step, started_step}
use Rattle.cf_sequence_lowered.specs.Nodes.{core_labels}
use Rattle.cf_lowerable_core.specs.Looks.{label_passes}
use Rattle.cf_core_nodes.specs.Views.{view, viewed}

module _ (test : ℤ → Bool) where
  labels-more : (e : Core) (es : Cores) → list_all test (core_labels (more e es)) ≡ (label_passes test e && list_all test (core_labels es))
  labels-more (case_label z) es = refl
  labels-more e es = refl

  module _ (tables : Tables) (body : List Node) (i : ℕ) (s : Node) where
    abbrev from : ℕ → Bool
    from n = list_all test (core_labels (viewed tables (drop n body)))

    abbrev all : Bool
    all = list_all test (core_labels (viewed tables body))

    one : i < length body → s ≡ get_or body i s → from i ≡ (label_passes test (view tables s) && from (i + 1))
    one within is =
        ap (λ (l : List Node). list_all test (core_labels (viewed tables l))) (left_is body i s within is)
        ∙ labels-more (view tables s) (viewed tables (drop (i + 1) body))

    pub label_fails : i < length body → s ≡ get_or body i s → label_passes test (view tables s) ≡ false → from i ≡ all → false ≡ all
    label_fails within is bad so_far = ap (λ b. b && from (i + 1)) (sym bad) ∙ sym (one within is) ∙ so_far

    pub label_passed : i < length body → s ≡ get_or body i s → label_passes test (view tables s) ≡ true → from i ≡ all → from (i + 1) ≡ all
    label_passed within is good so_far = ap (λ b. b && from (i + 1)) (sym good) ∙ sym (one within is) ∙ so_far

  pub labels_end : (tables : Tables) (body : List Node) (i : ℕ) → length body ≤ i → list_all test (core_labels (viewed tables (drop i body))) ≡ list_all test (core_labels (viewed tables body))
      → true ≡ list_all test (core_labels (viewed tables body))
  labels_end tables body i past so_far =
      ap (λ (l : List Node). list_all test (core_labels (viewed tables l))) (sym (drop_of_length-le body past)) ∙ so_far

-- ---- a switch

pub switch_view : (tables : Tables) (at : ℕ) (operand : Node) (body : List Node) → view tables (Switch at operand body) ≡ switch (view tables operand) (viewed tables body)
switch_view tables at operand body =
    ap (view tables) (sym (rolls-Switch at operand body))
    ∙ fold-roll-Core Core Started (core_step tables (signature_of tables)) (started_step tables (signature_of tables)) (Core-F.Switch at operand body)
