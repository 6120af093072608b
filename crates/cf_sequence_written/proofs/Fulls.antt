-- Full expressions: the flags of their temporaries before them, and the ends of these behind them.
use Rattle.std.proofs.Common.{◌≡◌, ℕ, ◌+◌, Bool, true, false, List, [], ◌∷◌, ◌++◌, reverse, refl, ap, sym, subst, ◌∙◌}
use Rattle.std.specs.Prelude.{pos, Option, if◌then◌else◌}
use Rattle.std.proofs.lemmas.List.{reverse-append}
use Rattle.cf_classes.specs.declared.class.MemberRef.{MemberRef}
use Rattle.cf_core.specs.Types.{Name}
use Rattle.cf_core.specs.Classes.{Class}
use Rattle.cf_core.specs.Core.{Core}
use Rattle.cf_core.specs.FromTypes.{Tables, type_of}
use Rattle.cf_plain.specs.declared.action.Action.TheVariants as action
use Rattle.cf_plain.specs.declared.statement.Plain.TheVariants as code
use Rattle.cf_plain.specs.Plain.{Register, Plains, nothing, more, branch, set as sets, act as acts}
use Rattle.cf_plain.specs.Plain as plain
use Rattle.cf_sequence.specs.Made.{Temporary, width, temporaries}
use Rattle.cf_sequence.specs.Expressions.{Full, Destination, value, whole, flags, ended, finished}
use Rattle.cf_sequence.specs.Expressions as definition
use Rattle.cf_sequence_expr.specs.declared.temporaries.Temporary.{Temporary as FoundOne}
use Rattle.cf_sequence_expr.specs.declared.writing.Writing.{Writing}
use Rattle.cf_sequence_expr.specs.Writes.{flag, put, set, act}
use Rattle.cf_sequence_expr.specs.Pieces.{Piece, found_in}
use Rattle.cf_sequence_stmt.specs.Bodies.{behind_flags, cleared_one, cleared, over_one, over, entered, left_behind}
use Rattle.cf_sequence_written.proofs.Views.{of-Act, of-If}
use Rattle.cf_sequence_written.proofs.Followed.{followed}
use Rattle.cf_sequence_written.proofs.Finding.{one_of, all_of, found-are}
use Rattle.cf_sequence_written.proofs.Puts.{Puts, Still, still-put, still-set, still-act, still-then, puts-as, puts-still, still-puts}
use Rattle.cf_sequence_written.proofs.Values.{Writes, full_of}
use Rattle.cf_sequence_written.proofs.Made.{flag-is}

-- a full expression whose locals are numbered from the first, with its flags from this register on
abbrev pub first_at : ℕ → Register → Full
first_at k n = record { first = k; base = n }

pub ended-more : (x : Full) (ts us : List Temporary) (rest : Plains) → ended x (ts ++ us) rest ≡ ended x ts (ended x us rest)
ended-more x [] us rest = refl
ended-more x (t ∷ ts) us rest = by t.in_branch (ended-more x ts us rest)
  where
    by : (b : Bool) → ended x (ts ++ us) rest ≡ ended x ts (ended x us rest)
        → ◌≡◌ {A = Plains}
        (elim b [ true ↦ more (branch (definition.flag x t.local.number) (finished (t.local ∷ []) nothing) nothing) (ended x (ts ++ us) rest) | false ↦ finished (t.local ∷ []) (ended x (ts ++ us) rest) ])
        (elim b [ true ↦ more (branch (definition.flag x t.local.number) (finished (t.local ∷ []) nothing) nothing) (ended x ts (ended x us rest)) | false ↦ finished (t.local ∷ []) (ended x ts (ended x us rest)) ])
    by true p = ap (more (branch (definition.flag x t.local.number) (finished (t.local ∷ []) nothing) nothing)) p
    by false p = ap (more (acts (plain.finish t.local.type t.local.number))) p

module _ (tables : Tables) (signature : MemberRef → Name) where
  still-none : Still tables signature (λ w. w) (λ rest. rest)
  still-none = record { code = λ w rest. refl; next = λ w. refl }

  -- ---- the flags

  still-cleared_one : (x : Full) (t : FoundOne)
      → Still tables signature (cleared_one (full_of x) t) (λ rest. elim t.in_branch [ true ↦ more (sets (definition.flag x t.local) (plain.number (pos 0))) rest | false ↦ rest ])
  unfolding cleared_one
  still-cleared_one x t = by t.in_branch
    where
      by : (b : Bool) → Still tables signature (λ w. if b then set (flag (full_of x) t.local) (action.Number (pos 0)) w else w)
          (λ rest. elim b [ true ↦ more (sets (definition.flag x t.local) (plain.number (pos 0))) rest | false ↦ rest ])
      by true =
          subst (λ f. Still tables signature (set (flag (full_of x) t.local) (action.Number (pos 0))) (λ rest. more (sets f (plain.number (pos 0))) rest)) (flag-is x t.local)
          (still-set tables signature (flag (full_of x) t.local) (action.Number (pos 0)))
      by false = still-none

  still-cleared : (x : Full) (ts : List FoundOne) → Still tables signature (cleared (full_of x) ts) (flags x (all_of tables ts))
  still-cleared x [] = still-none
  still-cleared x (t ∷ ts) = still-then tables signature (still-cleared_one x t) (still-cleared x ts)

  -- ---- the ends

  still-over_one : (x : Full) (t : FoundOne) → Still tables signature (over_one (full_of x) t) (λ rest. ended x (one_of tables t ∷ []) rest)
  unfolding over_one
  still-over_one x t = by t.in_branch
    where
      by : (b : Bool) → Still tables signature
          (λ w. if b then put (code.If (flag (full_of x) t.local) (code.Act (action.Finish t.ty t.local) ∷ []) []) w else act (action.Finish t.ty t.local) w)
          (λ rest. elim b [
            | true ↦ more (branch (definition.flag x t.local) (finished (record { number = t.local; type = type_of tables t.ty } ∷ []) nothing) nothing) rest
            | false ↦ finished (record { number = t.local; type = type_of tables t.ty } ∷ []) rest
          ])
      by true =
          still-put tables signature (code.If (flag (full_of x) t.local) (code.Act (action.Finish t.ty t.local) ∷ []) []) _
          (of-If tables signature (flag (full_of x) t.local) (code.Act (action.Finish t.ty t.local) ∷ []) []
          ∙ ap (λ s. branch (flag (full_of x) t.local) (more s nothing) nothing) (of-Act tables signature (action.Finish t.ty t.local))
          ∙ ap (λ f. branch f (finished (record { number = t.local; type = type_of tables t.ty } ∷ []) nothing) nothing) (flag-is x t.local))
      by false = still-act tables signature (action.Finish t.ty t.local)

  still-over : (x : Full) (ts : List FoundOne) → Still tables signature (over (full_of x) ts) (ended x (reverse (all_of tables ts)))
  still-over x [] = still-none
  still-over x (t ∷ ts) =
      let both = still-then tables signature (still-over x ts) (still-over_one x t) in
      let one = one_of tables t in
      let others = all_of tables ts in
      record {
        code = λ w rest. Still.code both w rest
            ∙ ap (followed tables signature w.code) (sym (ended-more x (reverse others) (one ∷ []) rest) ∙ ap (λ l. ended x l rest) (sym (reverse-append (one ∷ []) others)));
        next = Still.next both;
      }

  -- ---- together

  -- where its locals are numbered from the first
  puts-around : {p : Piece} {e : Core} {f : Writing → Writing} (classes : List Class) (n i : ℕ) (into : Option Destination) (g : Register → Plains → Plains)
      → Writes tables signature classes p e → Still tables signature f (g (n + width e)) → behind_flags n p ≡ n + width e
      → Puts tables signature (λ w. over (full_of (first_at i n)) (found_in p i) (f (p.value (full_of (first_at i n)) (behind_flags n p) (cleared (full_of (first_at i n)) (found_in p i) w))))
      (λ k rest. flags (first_at i n) (temporaries false e i)
      (value classes (first_at i n) e into (n + width e) k (g (n + width e) (ended (first_at i n) (reverse (temporaries false e i)) rest)))) (width e)
  puts-around {p} {e} {f} classes n i into g w still same =
      let x = first_at i n in
      let m = n + width e in
      let valued = subst (λ r. Puts tables signature (p.value (full_of x) r) (λ k rest. value classes x e into m k rest) (width e)) (sym same) (Writes.puts w x into m) in
      puts-as tables signature
      (puts-still tables signature (puts-still tables signature (still-puts tables signature (still-cleared x (found_in p i)) valued) still) (still-over x (found_in p i)))
      (λ k rest. ap (λ us. flags x us (value classes x e into m k (g m (ended x (reverse us) rest)))) (found-are tables p (Writes.finds w) i)) refl

  pub puts-whole : {p : Piece} {e : Core} {f : Writing → Writing} (classes : List Class) (n : ℕ) (into : Option Destination) (g : Register → Plains → Plains)
      → Writes tables signature classes p e → Still tables signature f (g (n + width e)) → behind_flags n p ≡ n + width e
      → Puts tables signature (λ w. left_behind n p w (f (entered n p w))) (λ k rest. whole e n k (λ x m rest. value classes x e into m k (g m rest)) (λ m. rest)) (width e)
  unfolding entered left_behind
  puts-whole classes n into g w still same = record {
    code = λ v rest. Puts.code (puts-around classes n v.next into g w still same) v rest;
    next = λ v. Puts.next (puts-around classes n v.next into g w still same) v;
  }

  -- with nothing more
  pub puts-all : {p : Piece} {e : Core} (classes : List Class) (n : ℕ) (into : Option Destination) → Writes tables signature classes p e → behind_flags n p ≡ n + width e
      → Puts tables signature (λ w. left_behind n p w (entered n p w)) (λ k rest. whole e n k (λ x m rest. value classes x e into m k rest) (λ m. rest)) (width e)
  puts-all classes n into w same = puts-whole classes n into (λ m rest. rest) w still-none same
