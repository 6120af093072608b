-- What the library functions do. They are not entered: they spend no tick and no depth, and give no event but that of their byte.
use Rattle.std.specs.Prelude.{ℕ, ◌^◌, nat_lt, Bool, true, false, if◌then◌else◌, List, [], ◌∷◌, length, ℤ, pos, negsuc, Option, Some, None}
use Rattle.cf_base.specs.declared.kind.Kind.TheVariants as kind
use Rattle.cf_base.specs.Integers.{bits_of}
use Rattle.cf_base.specs.Event.{Out, Undefined}
use Rattle.cf_base.specs.World.{World, Ran, Went, Stops, show, next_byte}
use Rattle.cc_whole_memory.specs.declared.value.Pointer.{Pointer}
use Rattle.cc_whole_memory.specs.declared.value.Value.{Value}
use Rattle.cc_whole_memory.specs.declared.value.Value.TheVariants as value
use Rattle.cc_whole_memory.specs.Blocks.{Allotted, allotted, Freed, freed}
use Rattle.cc_whole_mean.specs.Flow.{State, in_memory, Called, Back, Gone, tried}
use Rattle.cc_whole_mean.specs.Callee.{Library, putchar, getchar, exit, malloc, free, atexit, wrong_type}

abbrev pub wrong : World → Ran Called
wrong w = Stops (Undefined wrong_type) w.trace

abbrev pub back_int : ℤ → State → World → Ran Called
back_int z s w = Went (Back (Some (value.Number kind.Int z)) s) w

-- the argument modulo 256 is put, and is the result
abbrev pub put_byte : ℕ → State → World → Ran Called
put_byte byte s w = back_int (pos byte) s (show (Out byte) w)

-- the next byte, or -1 at the end
abbrev pub byte_or_end : Option ℕ → ℤ
byte_or_end None = negsuc 0
byte_or_end (Some byte) = pos byte

abbrev pub take_byte : State → World → Ran Called
take_byte s w = next_byte w (λ byte w. back_int (byte_or_end byte) s w)

abbrev pub back_allotted : State → World → Allotted → Ran Called
back_allotted s w a = Went (Back (Some (value.Address a.pointer)) (in_memory s a.memory)) (record w { heap = a.heap })

abbrev pub back_freed : State → World → Freed → Ran Called
back_freed s w f = Went (Back None (in_memory s f.memory)) (record w { heap = f.heap })

-- how many registrations stand at most
abbrev pub most_registered : ℕ
most_registered = 2 ^ 16

-- a function is registered, if there is room for it
abbrev pub register : ℕ → State → World → Ran Called
register f s w =
    if nat_lt (length s.registered) most_registered then back_int (pos 0) (record s { registered = f ∷ s.registered }) w
    else back_int (pos 1) s w

-- the functions of one argument, by the argument's kind
abbrev pub of_number : Library → ℤ → State → World → Ran Called
of_number putchar z s w = put_byte (bits_of 8 z) s w
of_number exit z s w = Went (Gone z s) w
of_number malloc z s w = back_allotted s w (allotted (bits_of 32 z) w.heap s.memory)
of_number l z s w = wrong w

abbrev pub of_pointer : Library → Pointer → State → World → Ran Called
of_pointer free p s w = tried (freed p w.heap s.memory) w (λ f. back_freed s w f)
of_pointer l p s w = wrong w

-- a helper registers nothing
abbrev pub of_function : Library → Bool → ℕ → State → World → Ran Called
of_function atexit true f s w = wrong w
of_function atexit false f s w = register f s w
of_function l inside f s w = wrong w

abbrev pub of_none : Library → State → World → Ran Called
of_none getchar s w = take_byte s w
of_none l s w = wrong w

abbrev pub of_one : Library → Bool → Value → State → World → Ran Called
of_one l inside (value.Number k z) s w = of_number l z s w
of_one l inside (value.Address p) s w = of_pointer l p s w
of_one l inside (value.Function f) s w = of_function l inside f s w

-- a library function is called, in a helper or not
abbrev pub does_library : Library → Bool → List Value → State → World → Ran Called
does_library l inside [] s w = of_none l s w
does_library l inside (v ∷ []) s w = of_one l inside v s w
does_library l inside vs s w = wrong w
