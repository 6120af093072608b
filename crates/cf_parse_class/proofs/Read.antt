-- The steps read what the rules of the grammar read.
use Rattle.std.proofs.Common.{◌≡◌, ℕ, zero, suc, Bool, true, false, List, [], length, Option, Some, None, refl, ◌∙◌, ap}
use Rattle.std.specs.Prelude.{nat_lt, Result, Ok, Err}
use Rattle.cf_parse_expr.specs.Reads.{Reads}
use Rattle.cf_parse_expr.specs.declared.stop.Stop.{Stop}
use Rattle.cf_parse_expr.specs.declared.stop.Stop.TheVariants as stop
use Rattle.cf_tokens.specs.declared.token.Token.{Token}
use Rattle.cf_syntax.specs.declared.name.Path.{Path}
use Rattle.cf_syntax.specs.NamesData.{Names}
use Rattle.cf_syntax.specs.Grammar.{sees}
use Rattle.cf_syntax.specs.Named.{type_path}
use Rattle.cf_syntax.specs.Parse.{Parse, pure, with_rest, then, word}
use Rattle.cf_syntax.specs.Words.{place, comma, colon}
use Rattle.cf_parse_expr.specs.Leaves.{a_type_path}
use Rattle.cf_unit.specs.declared.class.Base.{Base}
use Rattle.cf_unit.specs.declared.class.BaseWord.{BaseWord}
use Rattle.cf_unit.specs.Read.{chosen, kept, taking, turn, row, reading}
use Rattle.cf_unit.specs.Declarations as rules
use Rattle.cf_unit.specs.Members.{one_base, bases}
use Rattle.cf_unit.specs.Members as rule
use Rattle.cf_parse_class.specs.declared.bases.Bases.{Bases}
use Rattle.cf_parse_class.specs.Parts as step
use Rattle.cf_parse_class.specs.Parts.{with_base, no_bases}

-- ---- a row whose values are seen in another way

abbrev pub mapped : {A B : Type 0} → (A → B) → Option (A × List Token) → Option (B × List Token)
mapped f None = None
mapped f (Some q) = Some (f q.0, q.1)

taking-mapped : {A B : Type 0} (f : A → B) (r : Option (A × List Token)) (ts : List Token) → taking (mapped f r) ts ≡ mapped f (taking r ts)
taking-mapped f None ts = refl
taking-mapped {A = A} f (Some q) ts = by_length (nat_lt (length q.1) (length ts))
  where
    by_length : (b : Bool) → kept b (f q.0, q.1) ≡ mapped f (kept b q)
    by_length true = refl
    by_length false = refl

row-mapped : {A B : Type 0} (f : A → B) (p : A → Parse A) (q : B → Parse B) → ((a : A) (ts : List Token) → q (f a) ts ≡ mapped f (p a ts))
    → (n : ℕ) (a : A) (ts : List Token) → row q n (f a) ts ≡ mapped f (row p n a ts)
row-mapped f p q same zero a ts = refl
row-mapped {A = A} f p q same (suc n) a ts = ap (λ r. turn r (f a) ts (row q n)) (same a ts) ∙ by_turn (p a ts) (row-mapped f p q same n)
  where
    by_turn : (r : Option (A × List Token)) → ((b : A) (us : List Token) → row q n (f b) us ≡ mapped f (row p n b us))
        → turn (mapped f r) (f a) ts (row q n) ≡ mapped f (turn r a ts (row p n))
    by_turn None ih = refl
    by_turn (Some z) ih = ih z.0 z.1

-- ---- bases

abbrev seen : Bases → List Base × List ℕ
seen s = (s.list, s.classes)

-- the words of a base
pub words-same : (ts : List Token) → step.base_words ts ≡ row (λ b us. taking (rule.next_base_word b us) us) (length ts) [] ts
unfolding step.base_words
words-same ts = refl

base-same : (names : Names) (s : Bases) (ts : List Token) → reading (one_base names (seen s)) ts ≡ mapped seen (with_rest (step.one_base names ts) (λ b. pure (with_base names s b)))
unfolding step.one_base step.base_words a_type_path
base-same names s ts = by_words (row (λ b us. taking (rule.next_base_word b us) us) (length ts) [] ts)
  where
    make : List (ℕ × BaseWord) → Path → Base
    make words p = record { at = place ts; words = words; path = p }

    by_path : (words : List (ℕ × BaseWord)) (r : Option (Path × List Token))
        → with_rest r (λ p us. Some (seen (with_base names s (make words p)), us)) ≡ mapped seen (with_rest (with_rest r (λ p. pure (make words p))) (λ b. pure (with_base names s b)))
    by_path words None = refl
    by_path words (Some q) = refl

    by_words : (r : Option (List (ℕ × BaseWord) × List Token))
        → with_rest r (λ words us. with_rest (type_path names us) (λ p vs. Some (seen (with_base names s (make words p)), vs)))
        ≡ mapped seen (with_rest (with_rest r (λ words. then (type_path names) (λ p. pure (make words p)))) (λ b. pure (with_base names s b)))
    by_words None = refl
    by_words (Some q) = by_path q.0 (type_path names q.1)

turn-same : (names : Names) (s : Bases) (ts : List Token)
    → with_rest (word comma ts) (λ _. reading (one_base names (seen s))) ≡ mapped seen (step.base_turn names s ts)
unfolding step.base_turn step.next_base
turn-same names s ts = by_comma (word comma ts)
  where
    by_comma : (r : Option (ℕ × List Token)) → with_rest r (λ _. reading (one_base names (seen s)))
        ≡ mapped seen (with_rest (with_rest r (λ _. step.one_base names)) (λ b. pure (with_base names s b)))
    by_comma None = refl
    by_comma (Some q) = base-same names s q.1

more-same : (names : Names) (s : Bases) (ts : List Token)
    → row (λ b us. taking (with_rest (word comma us) (λ _. reading (one_base names b))) us) (length ts) (seen s) ts ≡ mapped seen (step.more_bases names s ts)
unfolding step.more_bases
more-same names s ts = row-mapped seen (λ b us. taking (step.base_turn names b us) us) (λ b us. taking (with_rest (word comma us) (λ _. reading (one_base names b))) us)
    (λ a us. ap (λ r. taking r us) (turn-same names a us) ∙ taking-mapped seen (step.base_turn names a us) us) (length ts) s ts

some-same : (names : Names) (ts : List Token)
    → with_rest (reading (one_base names ([], [])) ts) (λ first us. row (λ b vs. taking (with_rest (word comma vs) (λ _. reading (one_base names b))) vs) (length us) first us)
    ≡ mapped seen (step.some_bases names ts)
unfolding step.some_bases
some-same names ts = ap (λ r. with_rest r more) (base-same names no_bases ts) ∙ by_first (step.one_base names ts)
  where
    more : List Base × List ℕ → Parse (List Base × List ℕ)
    more first us = row (λ b vs. taking (with_rest (word comma vs) (λ _. reading (one_base names b))) vs) (length us) first us

    by_first : (r : Option (Base × List Token)) → with_rest (mapped seen (with_rest r (λ b. pure (with_base names no_bases b)))) more
        ≡ mapped seen (with_rest r (λ b. step.more_bases names (with_base names no_bases b)))
    by_first None = refl
    by_first (Some q) = more-same names (with_base names no_bases q.0) q.1

-- the bases of a class
pub bases_same : (names : Names) (ts : List Token) → reading (bases names) ts ≡ mapped seen (step.bases_behind names ts)
unfolding step.bases_behind
bases_same names ts = by_colon (sees colon ts)
  where
    behind : (r : Option (ℕ × List Token))
        → with_rest r (λ _ us. with_rest (reading (one_base names ([], [])) us) (λ first vs. row (λ b ws. taking (with_rest (word comma ws) (λ _. reading (one_base names b))) ws) (length vs) first vs))
        ≡ mapped seen (with_rest r (λ _. step.some_bases names))
    behind None = refl
    behind (Some q) = some-same names q.1

    by_colon : (b : Bool) → chosen b (λ us. with_rest (word colon us) (λ _ vs. with_rest (reading (one_base names ([], [])) vs) (λ first ws. row (λ b xs. taking (with_rest (word comma xs) (λ _. reading (one_base names b))) xs) (length ws) first ws)))
        (pure ([], [])) ts
        ≡ mapped seen (chosen b (then (word colon) (λ _. step.some_bases names)) (pure no_bases) ts)
    by_colon true = behind (word colon ts)
    by_colon false = refl

-- ---- heads

pub identifier_same : (ts : List Token) → reading rules.maybe_identifier ts ≡ step.maybe_identifier ts
unfolding step.maybe_identifier
identifier_same ts = refl

pub pure_same : (ts : List Token) → reading rule.pure_behind ts ≡ step.pure_behind ts
unfolding step.pure_behind
pure_same ts = refl

-- ---- what functions give

pub gives-bases : (names : Names) (ts : List Token) (r : Result Bases Stop) (new : List Token) → Reads (step.bases_behind names ts) r new
    → step.ReadsBases (reading (bases names) ts) r new
gives-bases names ts (Ok s) new e = bases_same names ts ∙ ap (mapped seen) e
gives-bases names ts (Err stop.Nothing) new e = bases_same names ts ∙ ap (mapped seen) e
gives-bases names ts (Err stop.Memory) new e = tt

pub gives-identifier : (ts : List Token) (r : Result (Option (ℕ × List ℕ)) Stop) (new : List Token) → Reads (step.maybe_identifier ts) r new
    → Reads (reading rules.maybe_identifier ts) r new
gives-identifier ts (Ok s) new e = identifier_same ts ∙ e
gives-identifier ts (Err stop.Nothing) new e = identifier_same ts ∙ e
gives-identifier ts (Err stop.Memory) new e = tt

pub gives-pure : (ts : List Token) (r : Result (Option ℕ) Stop) (new : List Token) → Reads (step.pure_behind ts) r new
    → Reads (reading rule.pure_behind ts) r new
gives-pure ts (Ok s) new e = pure_same ts ∙ e
gives-pure ts (Err stop.Nothing) new e = pure_same ts ∙ e
gives-pure ts (Err stop.Memory) new e = tt
