-- A type is the same as itself.
use Rattle.std.proofs.Common.{◌≡◌, ℕ, Bool, true, false, ◌&&◌, ◌==◌, refl, sym, ap, ◌∙◌, eq-eqb}
use Rattle.cf_base.proofs.Tests.{bytes_same, all_of}
use Rattle.cf_core.specs.FromTypes.{Tables}
use Rattle.cf_core.specs.Types.{SourceType, void, integer, enumeration, class, pointer, reference, array, takes, gives, data_member, function_member, const, type_eq, kind_number, bool_eq}
use Rattle.cf_lower_types.specs.Bare.{bare}

same_bool : (b : Bool) → bool_eq b b ≡ true
same_bool true = refl
same_bool false = refl

pub itself : (t : SourceType) → type_eq t t ≡ true
itself void = refl
itself (integer k) = eq-eqb (kind_number k) (kind_number k) refl
itself (enumeration e) = bytes_same e e refl
itself (class c) = bytes_same c c refl
itself (pointer t) = itself t
itself (reference t) = itself t
itself (array t n) = all_of (type_eq t t) (n == n) (itself t) (eq-eqb n n refl)
itself (takes p t) = all_of (type_eq p p) (type_eq t t) (itself p) (itself t)
itself (gives t c) = all_of (type_eq t t) (bool_eq c c) (itself t) (same_bool c)
itself (data_member c t) = all_of _ (type_eq t t) (bytes_same c c refl) (itself t)
itself (function_member c t) = all_of _ (type_eq t t) (bytes_same c c refl) (itself t)
itself (const t) = itself t

pub same_number : (tables : Tables) (t u : ℕ) → t ≡ u → true ≡ type_eq (bare tables t) (bare tables u)
same_number tables t u e = sym (itself (bare tables t)) ∙ ap (λ n. type_eq (bare tables t) (bare tables n)) e
