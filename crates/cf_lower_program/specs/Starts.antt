-- Static objects whose initialisers are lowered: all that these do is known before the run.
use Rattle.std.specs.Prelude.{ℕ, ◌^◌, Bool, true, false, ◌&&◌, not, nat_lt, nat_le, ◌==◌, List, [], ◌∷◌, Option, Some, None, length, bytes_eq}
use Rattle.std.specs.List.{list_all, list_any}
use Rattle.cf_core.specs.Types.{Name}
use Rattle.cf_lower_layout.specs.Sorts.{Sort, number, address, code, sort_of}
use Rattle.cf_plain.specs.Plain.{Register, Action, text, truth, first, zeros, bytes, reach, finish_static, Plain, Plains, act, set, branch, nothing, more, PlainFunction, PlainStatic, PlainFile}
use Rattle.cf_lower.specs.Constants.{Known, unknown, a_number, null, at, a_function, nothing_known, holds_truth, known_by, known_after}
use Rattle.cf_lower.specs.Functions.{owner_of}
use Rattle.cf_lower_program.specs.Types.{file_actions}

abbrev pub is_known : Known → Bool
is_known unknown = false
is_known x = true

-- whether it is what a scalar holds
abbrev pub is_value_of : Option Sort → Known → Bool
is_value_of None x = true
is_value_of (Some (number k)) (a_number z) = true
is_value_of (Some (address t)) null = true
is_value_of (Some (address t)) (at n o u) = true
is_value_of (Some (code t)) null = true
is_value_of (Some (code t)) (a_function name) = true
is_value_of s x = false

-- whether the object at a place may have it as its first value: a value is converted to the object's type before (8.4)
abbrev pub starts_well : Known → Known → Bool
starts_well (at n o t) x = is_value_of (sort_of t) x
starts_well y x = true

-- an action whose value is not kept
abbrev pub act_known : (Register → Known) → Action → Bool
act_known g (reach name) = true
act_known g (finish_static name) = true
act_known g (truth r) = is_known (g r)
act_known g (first r q) = is_known (g r) && is_known (g q) && starts_well (g r) (g q)
act_known g (zeros r) = is_known (g r)
act_known g (bytes r b) = is_known (g r)
act_known g a = false

abbrev mutual
  pub start_known : Plain → Name → (Register → Known) → Bool
  start_known (act a) f g = act_known g a
  start_known (set r a) f g = is_known (known_by [] f g a)
  start_known (branch r ss ts) f g =
      elim (holds_truth (g r)) [ None ↦ false | Some b ↦ elim b [ true ↦ starts_known ss f g | false ↦ starts_known ts f g ] ]
  start_known s f g = false

  pub starts_known : Plains → Name → (Register → Known) → Bool
  starts_known nothing f g = true
  starts_known (more s ss) f g = start_known s f g && starts_known ss f (known_after [] s f g)

-- the function in which a local static object stands; what is shared is local to one
abbrev pub owner_there : List PlainFunction → PlainStatic → Bool
owner_there fs x =
    elim x.owner [ None ↦ not x.is_shared | Some f ↦ list_any (λ (g : PlainFunction). bytes_eq g.name f) fs ]

abbrev pub statics_known : PlainFile → Bool
statics_known file =
    list_all (λ (x : PlainStatic). x.is_constant && starts_known x.start (owner_of x) nothing_known && owner_there file.functions x) file.statics

-- ---- literals

-- bytes, of which 0 is the last
abbrev pub is_text : List ℕ → Bool
is_text [] = false
is_text (b ∷ []) = b == 0
is_text (b ∷ c ∷ rest) = nat_lt b 256 && is_text (c ∷ rest)

abbrev pub text_fits : Action → Bool
text_fits (text j b) = is_text b && nat_le (length b) (2 ^ 22)
text_fits (bytes r b) = nat_le (length b) (2 ^ 22)
text_fits a = true

abbrev pub texts_fit : PlainFile → Bool
texts_fit file = list_all text_fits (file_actions file)
