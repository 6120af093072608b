-- C locals, one more.
use Rattle.std.proofs.Common.{◌≡◌, ℕ, ◌+◌, ◌<◌, suc, List, [], ◌∷◌, ◌++◌, length, map, drop, get_or, refl, sym, ap, ◌∙◌, arith, append_assoc}
use Rattle.cc_whole.specs.declared.statement.CLocal.{CLocal}
use Rattle.cc_whole.specs.declared.types.CLocalType.{CLocalType}
use Rattle.cc_whole.specs.declared.types.CType.TheVariants as ty
use Rattle.cf_core.specs.FromTypes.{Tables, type_of}
use Rattle.cf_core.specs.Types.{Name}
use Rattle.cf_lower.specs.Functions.{flags, own_locals, registers, scalar}
use Rattle.cf_lower.specs.Written.{flag_name, local_name, local_type}
use Rattle.cf_lower_held.proofs.Forgotten.{drop_item}
use Rattle.cf_lower_types.specs.Bare.{classes_of}
use Rattle.cf_lower_fn.specs.Parts.{three}

abbrev of_type : CLocalType → Name → CLocal
of_type t n = record { ty = t; name = n }

pub local_more : (tables : Tables) (all : List ℕ) (i t n : ℕ) (made more whole : List CLocal) (u : CLocalType) (name : Name) → i < length all → t ≡ get_or all i t
    → made ++ own_locals (classes_of tables) n (map (type_of tables) (drop i all)) ≡ whole → u ≡ local_type (classes_of tables) (type_of tables t) → name ≡ local_name n
    → more ≡ made ++ of_type u name ∷ [] → more ++ own_locals (classes_of tables) (n + 1) (map (type_of tables) (drop (i + 1) all)) ≡ whole
local_more tables all i t n made more whole u name within is so_far type_is name_is pushed =
    let rest = map (type_of tables) (drop (i + 1) all) in
    let next : n + 1 ≡ suc n = omega arith in
    ap (λ k. more ++ own_locals (classes_of tables) k rest) next ∙ ap (λ l. l ++ own_locals (classes_of tables) (suc n) rest) pushed
    ∙ append_assoc made (of_type u name ∷ []) (own_locals (classes_of tables) (suc n) rest)
    ∙ ap (λ w. made ++ of_type w name ∷ own_locals (classes_of tables) (suc n) rest) type_is
    ∙ ap (λ w. made ++ of_type (local_type (classes_of tables) (type_of tables t)) w ∷ own_locals (classes_of tables) (suc n) rest) name_is
    ∙ sym (ap (λ l. made ++ own_locals (classes_of tables) n (map (type_of tables) l)) (drop_item all i t within is)) ∙ so_far

pub register_more : (n r : ℕ) (w v u : List CLocal) → v ≡ w ++ registers n → r ≡ n → u ≡ v ++ three r → u ≡ w ++ registers (n + 1)
register_more n r w v u so_far is pushed =
    let next : suc n ≡ n + 1 = omega arith in
    pushed ∙ ap (λ k. v ++ three k) is ∙ ap (λ l. l ++ three n) so_far ∙ append_assoc w (registers n) (three n) ∙ ap (λ k. w ++ registers k) next

pub flag_more : (n : ℕ) (name : Name) (w v u : List CLocal) → v ≡ w ++ flags n → name ≡ flag_name n → u ≡ v ++ scalar ty.Int name ∷ [] → u ≡ w ++ flags (n + 1)
flag_more n name w v u so_far is pushed =
    let next : suc n ≡ n + 1 = omega arith in
    pushed ∙ ap (λ k. v ++ scalar ty.Int k ∷ []) is ∙ ap (λ l. l ++ scalar ty.Int (flag_name n) ∷ []) so_far
    ∙ append_assoc w (flags n) (scalar ty.Int (flag_name n) ∷ []) ∙ ap (λ k. w ++ flags k) next
