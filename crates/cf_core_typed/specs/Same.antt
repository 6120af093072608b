-- Types that are the same but for const, and where const may stand.
use Rattle.std.specs.Prelude.{◌≡◌, Bool, true, false, ◌&&◌}
use Rattle.cf_core.specs.Types.{SourceType, void, integer, enumeration, class, pointer, reference, array, takes, gives, data_member, function_member, const, without_const}

-- the same type otherwise than in const, at every level
abbrev pub Same : SourceType → SourceType → Type 0
Same t u = without_const t ≡ without_const u

-- no const stands on the type itself
abbrev pub is_bare : SourceType → Bool
is_bare (const t) = false
is_bare t = true

-- const stands on no const, reference, array or function (7.1.6)
abbrev pub takes_const : SourceType → Bool
takes_const (const t) = false
takes_const (reference t) = false
takes_const (array t n) = false
takes_const (takes p t) = false
takes_const (gives t c) = false
takes_const t = true

-- const stands only where it may, at every level
abbrev pub is_normal : SourceType → Bool
is_normal void = true
is_normal (integer k) = true
is_normal (enumeration e) = true
is_normal (class c) = true
is_normal (pointer t) = is_normal t
is_normal (reference t) = is_normal t
is_normal (array t n) = is_normal t
is_normal (takes p t) = is_normal p && is_normal t
is_normal (gives t c) = is_normal t
is_normal (data_member c t) = is_normal t
is_normal (function_member c t) = is_normal t
is_normal (const t) = takes_const t && is_normal t

-- what a value has that is no object of its own: a scalar that is no reference, or nothing
abbrev pub is_operand : SourceType → Bool
is_operand void = true
is_operand (integer k) = true
is_operand (enumeration e) = true
is_operand (pointer t) = true
is_operand (data_member c t) = true
is_operand (function_member c t) = true
is_operand (const t) = is_operand t
is_operand t = false
