-- The kind of the characters of an array does not hang on const.
use Rattle.std.proofs.Common.{◌≡◌, refl}
use Rattle.cf_core.specs.Types.{SourceType, void, integer, enumeration, class, pointer, reference, array, takes, gives, data_member, function_member, const, without_const}
use Rattle.cf_core.specs.Objects.{character_kind}

pub kind_by_bare : (t : SourceType) → character_kind (without_const t) ≡ character_kind t
kind_by_bare void = refl
kind_by_bare (integer k) = refl
kind_by_bare (enumeration e) = refl
kind_by_bare (class c) = refl
kind_by_bare (pointer t) = refl
kind_by_bare (reference t) = refl
kind_by_bare (array t n) = kind_by_bare t
kind_by_bare (takes p t) = refl
kind_by_bare (gives t c) = refl
kind_by_bare (data_member c t) = refl
kind_by_bare (function_member c t) = refl
kind_by_bare (const t) = kind_by_bare t
