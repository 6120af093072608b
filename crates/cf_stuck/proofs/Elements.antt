-- Declarations, functions, members and items gone through step by step are stuck where their rules are.
use Rattle.std.proofs.Common.{◌≡◌, ℕ, List, [], ◌∷◌, length, Option, Some, None, refl, sym, ◌∙◌}
use Rattle.cf_tokens.specs.declared.token.Token.{Token}
use Rattle.cf_syntax.specs.NamesData.{Names}
use Rattle.cf_syntax.specs.Grammar.{here}
use Rattle.cf_syntax.specs.Words.{place, colon}
use Rattle.cf_unit.specs.declared.reading.Given.{Given}
use Rattle.cf_unit.specs.Bodies as bodies
use Rattle.cf_unit.specs.Declarations as rule
use Rattle.cf_unit.specs.Declares.{Declared, Shape}
use Rattle.cf_unit.specs.Files as files
use Rattle.cf_unit.specs.Files.{inner, by_tree}
use Rattle.cf_unit.specs.Known.{Known, in_block, open_scopes}
use Rattle.cf_unit.specs.Members as members
use Rattle.cf_unit.specs.Pieces.{semicolon}
use Rattle.cf_unit.specs.Read.{reading, or_spot, spot_by, stuck_at}
use Rattle.cf_unit.specs.Rule.{Rule, Bodies, at_once, left_out, late, exactly, then, often}
use Rattle.cf_unit.specs.Statements.{block}
use Rattle.cf_stuck.specs.Members as steps
use Rattle.cf_stuck_statement.specs.Inside.{places}
use Rattle.cf_stuck_statement.specs.Parts.{Places, behind, either, nowhere}
use Rattle.cf_stuck_statement.proofs.Quiet.{Is, by-same, or-same, quiet-empty, quiet-exactly, quiet-then, quiet-made, quiet-by, quiet-unless, is-quiet, is-then, is-before, is-made, is-by}
use Rattle.cf_stuck_statement.proofs.Stuck.{quiet-word}
use Rattle.cf_stuck.proofs.Quiet.{quiet-member-inits, quiet-enumeration, quiet-declarator, quiet-behind-declarator, quiet-declarators, quiet-member-declared, quiet-plain}

-- ---- rules

-- as often as it is there, and then the next one
is-often : {A : Type 0} {step : A → Rule A} {a : A} (s : A → Places) → ((b : A) → Is (step b) (s b)) → Is (often step a) (behind (reading (often step a)) s)
is-often {step = step} {a = a} s each = record {
  same = λ ts. by-same (reading (often step a) ts) s (λ b mid. stuck_at (step b) mid) None (λ b us. (each b).same us);
}

-- at its own place
is-here : {B : Type 0} {h : ℕ → Rule B} {s : Places} → ((at : ℕ) → Is (h at) s) → Is (then (exactly here) h) s
is-here each = record { same = λ ts. (each (place ts)).same ts }

both-behind : {A : Type 0} (o : Option (A × List Token)) (f g : A → Places)
    → spot_by o (λ a us. or_spot (f a us) (g a us)) None ≡ or_spot (spot_by o f None) (spot_by o g None)
both-behind None f g = refl
both-behind (Some q) f g = refl

-- two places behind one reading
is-both-behind : {A B : Type 0} {g : Rule A} {h : A → Rule B} (s t : A → Places) → Is g (behind (reading g) s) → ((a : A) → Is (h a) (t a))
    → Is (then g h) (behind (reading g) (λ a. either (s a) (t a)))
is-both-behind {g = g} {h = h} s t one two = record {
  same = λ ts. both-behind (reading g ts) s t ∙ or-same (spot_by (reading g ts) s None) (spot_by (reading g ts) t None) (stuck_at g ts)
      (spot_by (reading g ts) (λ a mid. stuck_at (h a) mid) None) (one.same ts) (by-same (reading g ts) t (λ a mid. stuck_at (h a) mid) None (λ a us. (two a).same us));
}

module _ (n : ℕ) where
  -- ---- specifiers

  inner-class-is : (k : Known) → Is ((inner by_tree n).class k) ((places n).class k)
  inner-class-is k = record { same = λ ts. refl }

  class-here-is : (s : Given × Known) → Is (rule.one_given (inner by_tree n) s) (steps.class_here n (places n) s.1)
  unfolding steps.class_here
  class-here-is s = is-by ((places n).class s.1) nowhere (is-made (inner-class-is s.1))
      (is-quiet (quiet-by (quiet-made (quiet-enumeration s.1)) (quiet-by (quiet-plain n s) (quiet-unless (quiet-plain n s)))))

  specifiers-are : (k : Known) → Is (rule.specifiers (inner by_tree n) k) (steps.in_specifiers n (places n) k)
  unfolding steps.in_specifiers steps.specifiers_at
  specifiers-are k = is-often (λ s. steps.class_here n (places n) s.1) class-here-is

  -- a declaration is stuck in its specifiers
  pub specified-is : (k : Known) → Is (rule.specified (inner by_tree n) k) (steps.in_specifiers n (places n) k)
  specified-is k = is-here (λ at. is-before (specifiers-are k) (λ s. quiet-by (quiet-made (quiet-declarators n (open_scopes k.names) s.0 s.1)) (quiet-exactly _)))

  -- ---- functions with bodies

  block-at-is : (names : Names) → Is (block (inner by_tree n) (in_block names)) (steps.block_at n (places n) names)
  unfolding steps.block_at
  block-at-is names = record { same = λ ts. refl }

  body-is : (names : Names) → Is (bodies.body (inner by_tree n) names) (steps.body n (places n) names)
  unfolding steps.body steps.inits_at
  body-is names = is-then (λ _. steps.block_at n (places n) names) (quiet-member-inits names) (λ inits. is-made (block-at-is names))

  by-bodies : (b : Bodies) (home : ℕ) (s : Shape) (k : Known) → Is (bodies.body_by (inner by_tree n) b home s k) (steps.body_by n (places n) b s k.names)
  by-bodies at_once home s k = is-made (body-is _)
  by-bodies left_out home s k = is-quiet (quiet-made (quiet-exactly _))
  by-bodies (late end) home s k = is-made (body-is _)

  defined-is : (home at : ℕ) (g : Given) (d : Declared × Known) → Is (bodies.defined (inner by_tree n) home at g d) (steps.defined n (places n) d)
  unfolding steps.defined
  defined-is home at g d = is-made (by-bodies d.1.bodies home d.0.shape d.1)

  -- ---- members

  member-behind-is : (home at : ℕ) (g : Given) (d : Declared × Known) → Is (members.member_behind (inner by_tree n) home at g d) (steps.behind_declarator n (places n) d)
  unfolding steps.behind_declarator
  member-behind-is home at g d = is-by (steps.defined n (places n) d) nowhere
      (is-before (defined-is home at g d) (λ f. quiet-by (quiet-made (quiet-word semicolon)) (quiet-empty _)))
      (is-quiet (quiet-member-declared n home at g d))

  member-given-is : (home at : ℕ) (s : Given × Known) → Is (members.member_specified (inner by_tree n) home at s) (steps.behind_given n (places n) home s)
  unfolding steps.behind_given steps.declarator_at
  member-given-is home at s = is-by nowhere (behind (reading (rule.one_declarator (inner by_tree n) home s.0 s.1)) (steps.behind_declarator n (places n)))
      (is-quiet (quiet-made (quiet-word semicolon)))
      (is-then (steps.behind_declarator n (places n)) (quiet-declarator n home s.0 s.1) (λ d. member-behind-is home at s.0 d))

  -- what stands behind the words of access
  member-declared-is : (k : Known) → Is (then (exactly here) (λ at. then (rule.specifiers (inner by_tree n) k) (members.member_specified (inner by_tree n) (open_scopes k.names) at)))
      (steps.declared n (places n) (open_scopes k.names) k)
  unfolding steps.declared steps.behind_specifiers steps.specifiers_at steps.in_specifiers
  member-declared-is k = is-here (λ at. is-both-behind (λ s. steps.class_here n (places n) s.1) (steps.behind_given n (places n) (open_scopes k.names)) (specifiers-are k)
      (λ s. member-given-is (open_scopes k.names) at s))

  pub member-is : (k : Known) → Is (members.one_member (inner by_tree n) k) (steps.member n (places n) k)
  unfolding steps.member
  member-is k = is-by nowhere (steps.declared n (places n) (open_scopes k.names) k) (is-quiet (quiet-then (quiet-exactly _) (λ a. quiet-made (quiet-word colon)))) (member-declared-is k)

  -- ---- items

  item-behind-is : (at : ℕ) (g : Given) (d : Declared × Known) → Is (files.item_behind (inner by_tree n) at g d) (steps.behind_declarator n (places n) d)
  unfolding steps.behind_declarator
  item-behind-is at g d = is-by (steps.defined n (places n) d) nowhere (is-made (defined-is 0 at g d)) (is-quiet (quiet-made (quiet-made (quiet-behind-declarator n 0 g d))))

  item-given-is : (at : ℕ) (s : Given × Known) → Is (files.item_specified (inner by_tree n) at s) (steps.behind_given n (places n) 0 s)
  unfolding steps.behind_given steps.declarator_at
  item-given-is at s = is-by nowhere (behind (reading (rule.one_declarator (inner by_tree n) 0 s.0 s.1)) (steps.behind_declarator n (places n)))
      (is-quiet (quiet-made (quiet-made (quiet-made (quiet-word semicolon)))))
      (is-then (steps.behind_declarator n (places n)) (quiet-declarator n 0 s.0 s.1) (λ d. item-behind-is at s.0 d))

  item-declared-is : (k : Known) → Is (then (exactly here) (λ at. then (rule.specifiers (inner by_tree n) k) (files.item_specified (inner by_tree n) at))) (steps.declared n (places n) 0 k)
  unfolding steps.declared steps.behind_specifiers steps.specifiers_at steps.in_specifiers
  item-declared-is k = is-here (λ at. is-both-behind (λ s. steps.class_here n (places n) s.1) (steps.behind_given n (places n) 0) (specifiers-are k) (λ s. item-given-is at s))

  -- no place is looked for in a linkage specification
  linkage-is : (k : Known) → Is (files.linkage (inner by_tree n) k) nowhere
  linkage-is k = record { same = λ ts. refl }

  pub item-is : (k : Known) → Is (files.one_item (inner by_tree n) k) (steps.item n (places n) k)
  unfolding steps.item
  item-is k = is-by nowhere (steps.declared n (places n) 0 k) (is-made (linkage-is k)) (item-declared-is k)
