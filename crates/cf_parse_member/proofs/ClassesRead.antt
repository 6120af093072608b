-- Classes read step by step are those that the grammar's rules read.
use Rattle.std.proofs.Common.{◌≡◌, ℕ, List, [], ◌∷◌, ◌++◌, length, Option, Some, None, refl, ap, ◌∙◌}
use Rattle.std.proofs.Math.Path.{fun_ext}
use Rattle.cf_tokens.specs.declared.token.Token.{Token}
use Rattle.cf_syntax.specs.declared.specifier.ClassKey.{ClassKey}
use Rattle.cf_syntax.specs.declared.type_names.NameKind.{NameKind}
use Rattle.cf_syntax.specs.NamesData.{Names}
use Rattle.cf_syntax.specs.Grammar.{sees}
use Rattle.cf_syntax.specs.Parse.{Parse, pure, with_rest, then, word}
use Rattle.cf_parse_class.specs.Parts as parts
use Rattle.cf_parse_member.proofs.Joined.{joined, rest-same}
use Rattle.cf_parse_member.proofs.MembersRead.{member-is}
use Rattle.cf_parse_member.specs.Classes as steps
use Rattle.cf_parse_member.specs.Heads as heads
use Rattle.cf_unit.specs.declared.class.ClassDef.{ClassDef}
use Rattle.cf_unit.specs.declared.class.Member.{Member}
use Rattle.cf_unit.specs.Declarations.{maybe_identifier}
use Rattle.cf_unit.specs.Enters.{class_to_define}
use Rattle.cf_unit.specs.Files.{inner, by_tree}
use Rattle.cf_unit.specs.Known.{Known, with_names, open_scopes, closed_to}
use Rattle.cf_unit.specs.Members as rule
use Rattle.cf_unit.specs.Pieces.{left_brace, right_brace}
use Rattle.cf_unit.specs.Read.{reading, element, row, up_to}
use Rattle.cf_unit.specs.Rule as rules
use Rattle.cf_unit.specs.Rule.{Bodies, at_once, left_out, late}

-- what is left of members behind a class that stands in no other
abbrev left : ℕ → List Member × Known → Parse (List Member × Known)
left home all ts = Some ((all.0, steps.behind_outermost home all.1), ts)

-- the names at the end of members
abbrev at-end : Known → List Member × Known → Parse Names
at-end k all ts = Some (closed_to (open_scopes k.names) all.1.names, ts)

-- twice over the same tokens, where members are read so
twice-is : (read : Known → Parse (List Member × Known)) (home : ℕ) (k : Known) (ts : List Token) (o : Option ((List Member × Known) × List Token))
    → with_rest (with_rest o (at-end k)) (λ end _. with_rest (read (steps.with_ways k (late end)) ts) (left home))
    ≡ with_rest (with_rest o (λ all _. read (steps.with_ways k (late (closed_to (open_scopes k.names) all.1.names))) ts)) (left home)
twice-is read home k ts None = refl
twice-is read home k ts (Some q) = refl

module _ (n : ℕ) where
  key-is : (ts : List Token) → parts.class_key ts ≡ rule.class_key (inner by_tree n) ts
  unfolding parts.class_key
  key-is [] = refl
  key-is (t ∷ ts) = refl

  next-is : (s : List Member × Known) (ts : List Token) → steps.next_member n s ts ≡ reading (rule.next_member (inner by_tree n) s) ts
  unfolding steps.next_member
  next-is s ts = ap (λ o. with_rest o (λ x. pure (s.0 ++ x.0 ∷ [], x.1))) (member-is n s.1 ts)

  abbrev row-of : (List Member × Known → Parse (List Member × Known)) → Known → Parse (List Member × Known)
  row-of step k ts = with_rest (row (λ s. element (sees right_brace) (step s)) (length ts) ([], k) ts) (up_to (sees right_brace))

  members-are : (k : Known) (ts : List Token) → steps.members n k ts ≡ reading (rule.members (inner by_tree n) k) ts
  unfolding steps.members steps.all_members
  members-are k ts = ap (λ f. with_rest (row-of f k ts) (λ all. then (word right_brace) (λ _. pure all))) (fun_ext (λ s. fun_ext (λ us. next-is s us)))

  abbrev members-by-rule : Known → Parse (List Member × Known)
  members-by-rule k = reading (rule.members (inner by_tree n) k)

  outermost-is : (home : ℕ) (k : Known) (ts : List Token) → steps.outermost n home k ts ≡ reading (rule.outermost (inner by_tree n) home k) ts
  unfolding steps.outermost steps.names_at_end
  outermost-is home k ts = ap (λ m. with_rest (with_rest (m (steps.with_ways k left_out) ts) (at-end k)) (λ end _. with_rest (m (steps.with_ways k (late end)) ts) (left home)))
      (fun_ext (λ k'. fun_ext (λ us. members-are k' us)))
      ∙ twice-is members-by-rule home k ts (members-by-rule (steps.with_ways k left_out) ts)

  nested-is : (home : ℕ) (k : Known) (ts : List Token) → steps.nested n home k ts ≡ reading (rule.nested (inner by_tree n) home k) ts
  unfolding steps.nested
  nested-is home k ts = ap (λ o. with_rest o (λ all. pure (all.0, with_names all.1 (closed_to home all.1.names)))) (members-are k ts)

  members-by-is : (ways : Bodies) (home : ℕ) (k : Known) (ts : List Token) → steps.members_by n ways home k ts ≡ reading (rule.members_by (inner by_tree n) ways home k) ts
  unfolding steps.members_by
  members-by-is at_once home k ts = outermost-is home k ts
  members-by-is left_out home k ts = nested-is home k ts
  members-by-is (late names) home k ts = nested-is home k ts

  -- ---- classes

  abbrev class-of : Known → ℕ × ClassKey → Option (ℕ × List ℕ) → ℕ × Names → Parse ((ClassDef × NameKind) × Known)
  class-of k c name start = then (heads.head_behind c name start.0 k.bodies start.1)
      (λ h. then (steps.class_behind n (open_scopes k.names) h.0 h.1) (λ x. pure (x.0, steps.with_own x.1 k.own)))

  class-of-is : (k : Known) (c : ℕ × ClassKey) (name : Option (ℕ × List ℕ)) (start : ℕ × Names) (ts : List Token)
      → class-of k c name start ts ≡ reading (rule.class_as (inner by_tree n) k c.0 c.1 name start) ts
  unfolding heads.head_behind heads.bases_at steps.class_behind
  class-of-is k c name start ts = joined (heads.bases_at start.1 ts) _ _ ∙ rest-same (heads.bases_at start.1 ts) _ _ (λ bs us.
      joined (word left_brace us) _ _ ∙ rest-same (word left_brace us) _ _ (λ _ vs.
      joined (steps.members_by n k.bodies (open_scopes k.names) (heads.inside_class k.bodies start.1 start.0 bs.1 name) vs) _ _
      ∙ ap (λ o. with_rest o (λ all. pure (steps.class_of (heads.head_of c name bs.0 start.0) all.0, steps.with_own all.1 k.own)))
      (members-by-is k.bodies (open_scopes k.names) (heads.inside_class k.bodies start.1 start.0 bs.1 name) vs)))

  abbrev behind-key : Known → ℕ × ClassKey → Parse ((ClassDef × NameKind) × Known)
  behind-key k c = reading (rules.then maybe_identifier (λ name. rule.class_as (inner by_tree n) k c.0 c.1 name (class_to_define k.names name)))

  -- a class read step by step is what its rule reads
  pub class-is : (k : Known) (ts : List Token) → steps.class n k ts ≡ reading (rule.class (inner by_tree n) k) ts
  unfolding steps.class heads.head heads.name_at
  class-is k ts = joined (parts.class_key ts) _ _ ∙ rest-same (parts.class_key ts) _ (behind-key k) (λ c us.
      joined (heads.name_at us) _ _ ∙ rest-same (heads.name_at us) _ _ (λ name vs. class-of-is k c name (class_to_define k.names name) vs))
      ∙ ap (λ o. with_rest o (behind-key k)) (key-is ts)
