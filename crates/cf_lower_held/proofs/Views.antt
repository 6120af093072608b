-- What a plain statement of code is as plain data, by its form.
use Rattle.std.proofs.Common.{◌≡◌, ℕ, List, map, ap, sym, ◌∙◌}
use Rattle.std.specs.Prelude.{ℤ, Option}
use Rattle.cf_classes.specs.declared.class.MemberRef.{MemberRef}
use Rattle.cf_core.specs.Types.{Name}
use Rattle.cf_core.specs.FromTypes.{Tables}
use Rattle.cf_plain.specs.declared.action.Action.{Action}
use Rattle.cf_plain.specs.declared.statement.Plain.{Plain}
use Rattle.cf_plain.specs.declared.statement.PlainPart.{PlainPart, fold-PlainPart}
use Rattle.cf_plain.specs.declared.statement.Plain.TheOpen.{Plain-F}
use Rattle.cf_plain.specs.declared.statement.Plain.TheFolds.{fold-roll-Plain, fold_out-PlainPart}
use Rattle.cf_plain.specs.declared.statement.Plain.TheVariants as code
use Rattle.cf_plain.specs.declared.statement.Plain.TheVariants.{rolls-Act, rolls-Set, rolls-If, rolls-Loop, rolls-Switch, rolls-Case, rolls-Default, rolls-Break, rolls-Continue, rolls-Return, rolls-Parts}
use Rattle.cf_plain.specs.Plain as plain
use Rattle.cf_plain.specs.View.{Built, action_of, plain_of, plains_of, plain_step, part_step, parts_in_order}

module _ (tables : Tables) (signature : MemberRef → Name) where
  of-Act : (a : Action) → plain_of tables signature (code.Act a) ≡ plain.act (action_of tables signature a)
  of-Act a = ap (plain_of tables signature) (sym (rolls-Act a)) ∙ fold-roll-Plain plain.Plain Built (plain_step tables signature) (part_step tables signature) (Plain-F.Act a)

  of-Set : (n : ℕ) (a : Action) → plain_of tables signature (code.Set n a) ≡ plain.set n (action_of tables signature a)
  of-Set n a = ap (plain_of tables signature) (sym (rolls-Set n a)) ∙ fold-roll-Plain plain.Plain Built (plain_step tables signature) (part_step tables signature) (Plain-F.Set n a)

  of-If : (n : ℕ) (ss ts : List Plain) → plain_of tables signature (code.If n ss ts) ≡ plain.branch n (plains_of tables signature ss) (plains_of tables signature ts)
  of-If n ss ts = ap (plain_of tables signature) (sym (rolls-If n ss ts)) ∙ fold-roll-Plain plain.Plain Built (plain_step tables signature) (part_step tables signature) (Plain-F.If n ss ts)

  of-Loop : (ss ts : List Plain) → plain_of tables signature (code.Loop ss ts) ≡ plain.loop (plains_of tables signature ss) (plains_of tables signature ts)
  of-Loop ss ts = ap (plain_of tables signature) (sym (rolls-Loop ss ts)) ∙ fold-roll-Plain plain.Plain Built (plain_step tables signature) (part_step tables signature) (Plain-F.Loop ss ts)

  of-Switch : (n : ℕ) (ss : List Plain) → plain_of tables signature (code.Switch n ss) ≡ plain.switch n (plains_of tables signature ss)
  of-Switch n ss = ap (plain_of tables signature) (sym (rolls-Switch n ss)) ∙ fold-roll-Plain plain.Plain Built (plain_step tables signature) (part_step tables signature) (Plain-F.Switch n ss)

  of-Case : (z : ℤ) → plain_of tables signature (code.Case z) ≡ plain.case_label z
  of-Case z = ap (plain_of tables signature) (sym (rolls-Case z)) ∙ fold-roll-Plain plain.Plain Built (plain_step tables signature) (part_step tables signature) (Plain-F.Case z)

  of-Default : plain_of tables signature code.Default ≡ plain.default_label
  of-Default = ap (plain_of tables signature) (sym rolls-Default) ∙ fold-roll-Plain plain.Plain Built (plain_step tables signature) (part_step tables signature) Plain-F.Default

  of-Break : plain_of tables signature code.Break ≡ plain.leave
  of-Break = ap (plain_of tables signature) (sym rolls-Break) ∙ fold-roll-Plain plain.Plain Built (plain_step tables signature) (part_step tables signature) Plain-F.Break

  of-Continue : plain_of tables signature code.Continue ≡ plain.continue
  of-Continue = ap (plain_of tables signature) (sym rolls-Continue) ∙ fold-roll-Plain plain.Plain Built (plain_step tables signature) (part_step tables signature) Plain-F.Continue

  of-Return : (r : Option ℕ) → plain_of tables signature (code.Return r) ≡ plain.give r
  of-Return r = ap (plain_of tables signature) (sym (rolls-Return r)) ∙ fold-roll-Plain plain.Plain Built (plain_step tables signature) (part_step tables signature) (Plain-F.Return r)

  of-Parts : (ps : List PlainPart) → plain_of tables signature (code.Parts ps)
      ≡ plain.parts (parts_in_order (map (fold-PlainPart plain.Plain Built (plain_step tables signature) (part_step tables signature)) ps))
  of-Parts ps = ap (plain_of tables signature) (sym (rolls-Parts ps)) ∙ fold-roll-Plain plain.Plain Built (plain_step tables signature) (part_step tables signature) (Plain-F.Parts ps)

  -- ---- of a statement that is known to have a form

  module _ (s : Plain) where
    pub is-Act : (a : Action) → s ≡ code.Act a → plain_of tables signature s ≡ plain.act (action_of tables signature a)
    is-Act a e = ap (plain_of tables signature) e ∙ of-Act a

    pub is-Set : (n : ℕ) (a : Action) → s ≡ code.Set n a → plain_of tables signature s ≡ plain.set n (action_of tables signature a)
    is-Set n a e = ap (plain_of tables signature) e ∙ of-Set n a

    pub is-If : (n : ℕ) (ss ts : List Plain) → s ≡ code.If n ss ts → plain_of tables signature s ≡ plain.branch n (plains_of tables signature ss) (plains_of tables signature ts)
    is-If n ss ts e = ap (plain_of tables signature) e ∙ of-If n ss ts

    pub is-Loop : (ss ts : List Plain) → s ≡ code.Loop ss ts → plain_of tables signature s ≡ plain.loop (plains_of tables signature ss) (plains_of tables signature ts)
    is-Loop ss ts e = ap (plain_of tables signature) e ∙ of-Loop ss ts

    pub is-Switch : (n : ℕ) (ss : List Plain) → s ≡ code.Switch n ss → plain_of tables signature s ≡ plain.switch n (plains_of tables signature ss)
    is-Switch n ss e = ap (plain_of tables signature) e ∙ of-Switch n ss

    pub is-Case : (z : ℤ) → s ≡ code.Case z → plain_of tables signature s ≡ plain.case_label z
    is-Case z e = ap (plain_of tables signature) e ∙ of-Case z

    pub is-Default : s ≡ code.Default → plain_of tables signature s ≡ plain.default_label
    is-Default e = ap (plain_of tables signature) e ∙ of-Default

    pub is-Break : s ≡ code.Break → plain_of tables signature s ≡ plain.leave
    is-Break e = ap (plain_of tables signature) e ∙ of-Break

    pub is-Continue : s ≡ code.Continue → plain_of tables signature s ≡ plain.continue
    is-Continue e = ap (plain_of tables signature) e ∙ of-Continue

    pub is-Return : (r : Option ℕ) → s ≡ code.Return r → plain_of tables signature s ≡ plain.give r
    is-Return r e = ap (plain_of tables signature) e ∙ of-Return r

    pub is-Parts : (ps : List PlainPart) → s ≡ code.Parts ps
        → plain_of tables signature s ≡ plain.parts (parts_in_order (map (fold-PlainPart plain.Plain Built (plain_step tables signature) (part_step tables signature)) ps))
    is-Parts ps e = ap (plain_of tables signature) e ∙ of-Parts ps

  -- the statements of a base or data member
  pub inside_part : (p : PlainPart)
      → (fold-PlainPart plain.Plain Built (plain_step tables signature) (part_step tables signature) p).statements ≡ plains_of tables signature p.statements
  inside_part p = ap Built.statements (fold_out-PlainPart plain.Plain Built (plain_step tables signature) (part_step tables signature) p)
