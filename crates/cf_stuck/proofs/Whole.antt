-- Classes and files gone through step by step are stuck where their rules are.
use Rattle.std.proofs.Common.{◌≡◌, ℕ, zero, suc, Bool, true, false, List, [], ◌∷◌, drop, length, Option, Some, None, nat_eq, refl, sym, ◌∙◌, ap}
use Rattle.std.proofs.Math.Path.{fun_ext}
use Rattle.cf_tokens.specs.declared.token.Token.{Token}
use Rattle.cf_syntax.specs.NamesData.{Names}
use Rattle.cf_syntax.specs.Grammar.{sees}
use Rattle.cf_syntax.specs.Names.{no_names}
use Rattle.cf_syntax.specs.Parse.{Parse, pure, with_rest, then, word}
use Rattle.cf_syntax.specs.Words.{place}
use Rattle.cf_parse_class.specs.Parts as parts
use Rattle.cf_parse_member.specs.declared.heads.Head.{Head}
use Rattle.cf_parse_member.specs.Heads as heads
use Rattle.cf_syntax.specs.declared.specifier.ClassKey.{ClassKey}
use Rattle.cf_unit.specs.declared.class.Member.{Member}
use Rattle.cf_unit.specs.Declarations as rule
use Rattle.cf_unit.specs.Enters.{class_to_define}
use Rattle.cf_unit.specs.Files.{inner, by_tree, at_end, file, next_item, one_item}
use Rattle.cf_unit.specs.Known.{Known, in_block, open_scopes, closed_to}
use Rattle.cf_unit.specs.Members as members
use Rattle.cf_unit.specs.Pieces as pieces
use Rattle.cf_unit.specs.Pieces.{left_brace, right_brace}
use Rattle.cf_unit.specs.Read.{chosen, reading, row, element, up_to, or_spot, spot_if, spot_by, with_spot, stuck_at}
use Rattle.cf_unit.specs.Rule.{Rule, Bodies, at_once, left_out, late, exactly, until, twice, made}
use Rattle.cf_unit.specs.Rule.{then as thens}
use Rattle.cf_unit.specs.Statements.{names_behind}
use Rattle.cf_unit.specs.Stuck.{Spot}
use Rattle.cf_stuck.specs.declared.rows.Element.TheVariants as element
use Rattle.cf_stuck.specs.Members as steps
use Rattle.cf_stuck_statement.specs.Inside.{places}
use Rattle.cf_stuck_statement.specs.Parts.{Places, behind, known_at, unended}
use Rattle.cf_stuck_statement.proofs.Quiet.{Quiet, Is, quiet-exactly, quiet-made, is-then, is-before, is-made}
use Rattle.cf_stuck_statement.proofs.Kept.{until-is, rows-same}
use Rattle.cf_stuck_statement.proofs.Stuck.{quiet-word}
use Rattle.cf_stuck.proofs.Elements.{member-is, item-is}
use Rattle.cf_stuck.proofs.Quiet.{quiet-bases, quiet-maybe-identifier}

-- a word that is seen is taken
word-seen : (w : ℕ) (ts : List Token) → sees w ts ≡ true → nat_eq 255 w ≡ false → word w ts ≡ Some (place ts, drop 1 ts)
word-seen w [] e f = absurd (cc)
word-seen w (t ∷ ts) e f = rw e refl

-- what is found behind a reading of two steps, by what is known there
joined-spots : {A C : Type 0} (o : Option (A × List Token)) (f : A → Parse (C × Known)) (t : Known → Places)
    → spot_by (with_rest (with_rest o f) (λ a. pure a.1)) t None ≡ spot_by o (λ a us. spot_by (with_rest (f a us) (λ b. pure b.1)) t None) None
joined-spots None f t = refl
joined-spots (Some q) f t = refl

-- a part that is read past, with what is found behind the rest
is-then-known : {A B C : Type 0} {g : Rule A} {h : A → Rule B} (f : A → Parse (C × Known)) (t : Known → Places) → Quiet g
    → ((a : A) → Is (h a) (behind (known_at (f a)) t)) → Is (thens g h) (behind (known_at (then (reading g) f)) t)
is-then-known {g = g} f t one two = record { same = λ ts. joined-spots (reading g ts) f t ∙ (is-then (λ a. behind (known_at (f a)) t) one two).same ts }

module _ (n : ℕ) where
  -- ---- members

  row-is : (k : Known) → Is (until (sees right_brace) names_behind (members.next_member (inner by_tree n)) ([], k)) (steps.row_of n (places n) element.Member k)
  unfolding steps.row_of steps.last_of steps.unended_at steps.past_member
  row-is k = until-is (sees right_brace) (members.one_member (inner by_tree n)) (steps.member n (places n)) (member-is n) k

  members-are : (k : Known) → Is (members.members (inner by_tree n) k) (steps.row_of n (places n) element.Member k)
  members-are k = is-before (row-is k) (λ all. quiet-made (quiet-word right_brace))

  -- ---- a class that stands in no other

  abbrev rows : Known → Parse (List Member × Known)
  rows k ts = row (λ s. element (sees right_brace) (reading (members.next_member (inner by_tree n) s))) (length ts) ([], k) ts

  -- what the members spell, by the row of them
  abbrev spelled : Option ((List Member × Known) × List Token) → Option ((List Member × Known) × List Token)
  spelled o = with_rest (with_rest o (up_to (sees right_brace))) (λ all us. with_rest (word right_brace us) (λ _ vs. Some (all, vs)))

  -- where they are stuck
  abbrev spotted : Option ((List Member × Known) × List Token) → Option Spot
  spotted o = spot_by (with_rest o (λ s us. Some (s.1, us))) (unended (sees right_brace) (steps.member n (places n))) None

  abbrev found-names : Option ((List Member × Known) × List Token) → Option Names
  found-names o = steps.names_by n (places n) (with_rest o (λ s us. Some (s.1, us))) (steps.names_there n (places n))

  by-brace : (f : Names → Option Spot) (s : List Member × Known) (us : List Token) (b : Bool) → sees right_brace us ≡ b
      → steps.by_names n (places n) (steps.names_if n (places n) b s.1.names (steps.spot_names n (places n) (unended (sees right_brace) (steps.member n (places n)) s.1 us))) f
      ≡ spot_by (spelled (Some (s, us))) (λ a _. f a.1.names) (with_spot (unended (sees right_brace) (steps.member n (places n)) s.1 us) (λ q. f q.names))
  by-brace f s us true e = sym (ap (λ o. spot_by (with_rest o (λ all vs. with_rest (word right_brace vs) (λ _ ws. Some (all, ws)))) (λ a _. f a.1.names)
      (with_spot (unended (sees right_brace) (steps.member n (places n)) s.1 us) (λ q. f q.names))) (ap (λ b. chosen b (λ vs. Some (s, vs)) (λ vs. None) us) e)
      ∙ ap (λ w. spot_by (with_rest w (λ _ ws. Some (s, ws))) (λ a _. f a.1.names)
      (with_spot (unended (sees right_brace) (steps.member n (places n)) s.1 us) (λ q. f q.names))) (word-seen right_brace us e refl))
  by-brace f s us false e = by-spot (unended (sees right_brace) (steps.member n (places n)) s.1 us)
      ∙ sym (ap (λ o. spot_by (with_rest o (λ all vs. with_rest (word right_brace vs) (λ _ ws. Some (all, ws)))) (λ a _. f a.1.names)
      (with_spot (unended (sees right_brace) (steps.member n (places n)) s.1 us) (λ q. f q.names))) (ap (λ b. chosen b (λ vs. Some (s, vs)) (λ vs. None) us) e))
    where
      by-spot : (o : Option Spot) → steps.by_names n (places n) (steps.spot_names n (places n) o) f ≡ with_spot o (λ q. f q.names)
      by-spot None = refl
      by-spot (Some p) = refl

  by-row : (f : Names → Option Spot) (o : Option ((List Member × Known) × List Token))
      → steps.by_names n (places n) (found-names o) f ≡ spot_by (spelled o) (λ a _. f a.1.names) (with_spot (spotted o) (λ q. f q.names))
  unfolding steps.names_there steps.unended_at
  by-row f None = refl
  by-row f (Some q) = by-brace f q.0 q.1 (sees right_brace q.1) refl

  -- the members with bodies read so
  abbrev step : Known → Bodies → Rule (List Member × Known)
  step k b = members.members (inner by_tree n) (record { names = k.names; bodies = members.cut (inner by_tree n) (open_scopes k.names) b; own = k.own })

  abbrev first : Known → Known
  first k = steps.with_bodies n (places n) k left_out

  forgotten-are : (k : Known) (ts : List Token) → steps.last_of n element.Member k ts ≡ with_rest (rows k ts) (λ s us. Some (s.1, us))
  unfolding steps.last_of steps.past_member
  forgotten-are k ts = sym (rows-same (sees right_brace) (members.one_member (inner by_tree n)) (length ts) [] k ts)

  spotted-is : (k : Known) (ts : List Token) → spotted (rows k ts) ≡ stuck_at (members.members (inner by_tree n) k) ts
  unfolding steps.row_of steps.unended_at
  spotted-is k ts = sym (ap (λ o. spot_by o (unended (sees right_brace) (steps.member n (places n))) None) (forgotten-are k ts)) ∙ (members-are k).same ts

  twice-is : (home : ℕ) (k : Known) → Is (members.outermost (inner by_tree n) home k) (λ ts. stuck_at (twice names_behind (step k)) ts)
  twice-is home k = is-made (record { same = λ ts. refl })

  outermost-same : (home : ℕ) (k : Known) (ts : List Token) → steps.outermost n (places n) k ts ≡ stuck_at (members.outermost (inner by_tree n) home k) ts
  unfolding steps.outermost steps.end_names steps.members_late
  outermost-same home k ts =
      ap (λ o. steps.by_names n (places n) (steps.names_by n (places n) o (steps.names_there n (places n))) late-spot) (forgotten-are (first k) ts)
      ∙ by-row late-spot (rows (first k) ts)
      ∙ ap (λ x. spot_by (spelled (rows (first k) ts)) (λ a _. late-spot a.1.names) (with_spot x (λ q. late-spot q.names))) (spotted-is (first k) ts)
      ∙ ap (λ (f : Names → Option Spot). spot_by (reading (step k left_out) ts) (λ a _. f a.1.names) (with_spot (stuck_at (step k left_out) ts) (λ q. f q.names)))
      (fun_ext (λ names. (members-are (steps.with_bodies n (places n) k (late (closed_to (open_scopes k.names) names)))).same ts))
      ∙ (twice-is home k).same ts
    where
      late-spot : Names → Option Spot
      late-spot names = steps.members_late n (places n) k names ts

  -- ---- classes

  outermost-is : (home : ℕ) (k : Known) → Is (members.outermost (inner by_tree n) home k) (steps.outermost n (places n) k)
  outermost-is home k = record { same = outermost-same home k }

  by-bodies : (b : Bodies) (home : ℕ) (k : Known) → Is (members.members_by (inner by_tree n) b home k) (steps.members_by n (places n) b k)
  by-bodies at_once home k = outermost-is home k
  by-bodies left_out home k = is-made (members-are k)
  by-bodies (late names) home k = is-made (members-are k)

  key-is : (ts : List Token) → parts.class_key ts ≡ members.class_key (inner by_tree n) ts
  unfolding parts.class_key
  key-is [] = refl
  key-is (t ∷ ts) = refl

  -- behind the `{`
  braces-are : (home : ℕ) (k : Known) → Is (members.members_by (inner by_tree n) k.bodies home k) (steps.in_braces n (places n) k)
  unfolding steps.in_braces
  braces-are home k = by-bodies k.bodies home k

  class-as-is : (k : Known) (c : ℕ × ClassKey) (name : Option (ℕ × List ℕ)) (start : ℕ × Names)
      → Is (members.class_as (inner by_tree n) k c.0 c.1 name start) (behind (known_at (heads.head_behind c name start.0 k.bodies start.1)) (steps.in_braces n (places n)))
  unfolding heads.head_behind heads.bases_at
  class-as-is k c name start = is-then-known (λ bs. then (word left_brace) (λ _. pure (heads.head_of c name bs.0 start.0, heads.inside_class k.bodies start.1 start.0 bs.1 name)))
      (steps.in_braces n (places n)) (quiet-bases start.1)
      (λ bs. is-then-known (λ _. pure (heads.head_of c name bs.0 start.0, heads.inside_class k.bodies start.1 start.0 bs.1 name)) (steps.in_braces n (places n)) (quiet-word left_brace)
      (λ _. is-made (braces-are (open_scopes k.names) (heads.inside_class k.bodies start.1 start.0 bs.1 name))))

  abbrev named : Known → ℕ × ClassKey → Parse (Head × Known)
  named k c = then (reading rule.maybe_identifier) (λ name. heads.head_behind c name (class_to_define k.names name).0 k.bodies (class_to_define k.names name).1)

  keyed-is : (k : Known) → Is (members.class (inner by_tree n) k) (behind (known_at (then (reading (exactly (members.class_key (inner by_tree n)))) (named k))) (steps.in_braces n (places n)))
  keyed-is k = is-then-known (named k) (steps.in_braces n (places n)) (quiet-exactly _)
      (λ c. is-then-known (λ name. heads.head_behind c name (class_to_define k.names name).0 k.bodies (class_to_define k.names name).1) (steps.in_braces n (places n)) quiet-maybe-identifier
      (λ name. class-as-is k c name (class_to_define k.names name)))

  pub class-is : (k : Known) (ts : List Token) → steps.class n (places n) k ts ≡ stuck_at (members.class (inner by_tree n) k) ts
  unfolding steps.class steps.class_head heads.head heads.name_at
  class-is k ts = ap (λ o. spot_by (with_rest (with_rest o (named k)) (λ a. pure a.1)) (steps.in_braces n (places n)) None) (key-is ts) ∙ (keyed-is k).same ts

-- items
pub items-are : (n : ℕ) (ts : List Token) → steps.items_spot (suc n) ts ≡ stuck_at (file n) ts
unfolding steps.items_spot steps.row_of steps.last_of steps.unended_at steps.past_item
items-are n ts = (until-is at_end (one_item (inner by_tree (suc n))) (steps.item (suc n) (places (suc n))) (item-is (suc n)) (in_block no_names)).same ts
