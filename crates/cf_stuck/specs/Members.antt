-- Where declarations, functions with bodies, members, classes and items are stuck, step by step.
use Rattle.std.specs.Prelude.{ℕ, Bool, true, false, List, [], ◌∷◌, length, Option, Some, None}
use Rattle.cf_tokens.specs.declared.token.Token.{Token}
use Rattle.cf_syntax.specs.NamesData.{Names}
use Rattle.cf_syntax.specs.Grammar.{sees, begins}
use Rattle.cf_syntax.specs.Names.{no_names}
use Rattle.cf_syntax.specs.Parse.{Parse, pure, then, word}
use Rattle.cf_unit.specs.declared.class.MemberInit.{MemberInit}
use Rattle.cf_unit.specs.declared.reading.Given.{Given}
use Rattle.cf_unit.specs.Bodies.{with_params, member_inits}
use Rattle.cf_unit.specs.Declarations.{specifiers, one_declarator, begins_class}
use Rattle.cf_unit.specs.Declares.{Declared, Shape}
use Rattle.cf_unit.specs.Files.{inner, by_tree, at_end, begins_linkage, one_item, file}
use Rattle.cf_unit.specs.Known.{Known, in_block, late_names, open_scopes, closed_to, with_names}
use Rattle.cf_unit.specs.Members.{begins_body, one_member}
use Rattle.cf_parse_member.specs.Heads.{head}
use Rattle.cf_unit.specs.Pieces.{left_brace, right_brace, semicolon, public_word, protected_word, private_word}
use Rattle.cf_unit.specs.Read.{reading, chosen, with_spot, stuck_at}
use Rattle.cf_unit.specs.Rule.{Bodies, at_once, left_out, late}
use Rattle.cf_unit.specs.Statements.{block}
use Rattle.cf_unit.specs.Stuck.{Spot}
use Rattle.cf_stuck.specs.declared.rows.Element.{Element}
use Rattle.cf_stuck.specs.declared.rows.Element.TheVariants as element
use Rattle.cf_stuck_statement.specs.Inside.{places}
use Rattle.cf_stuck_statement.specs.Inside.{Places as Insiders}
use Rattle.cf_stuck_statement.specs.Parts.{Places, behind, either, where_seen, nowhere, known_at, last_by, unended}

module _ (n : ℕ) where
  -- ---- what is read past

  unfoldable pub specifiers_at : Known → Parse (Given × Known)
  specifiers_at k = reading (specifiers (inner by_tree n) k)

  unfoldable pub declarator_at : ℕ → Given → Known → Parse (Declared × Known)
  declarator_at home g k = reading (one_declarator (inner by_tree n) home g k)

  unfoldable pub inits_at : Names → Parse (List MemberInit)
  inits_at names = reading (member_inits names)

  unfoldable pub past_member : Known → Parse Known
  past_member k = known_at (reading (one_member (inner by_tree n) k))

  unfoldable pub past_item : Known → Parse Known
  past_item k = known_at (reading (one_item (inner by_tree n) k))

  abbrev pub past : Element → Known → Parse Known
  past element.Member k = past_member k
  past element.Item k = past_item k

  abbrev pub ends : Element → List Token → Bool
  ends element.Member = sees right_brace
  ends element.Item = at_end

  -- elements as far as they can be read
  unfoldable pub last_of : Element → Known → Parse Known
  last_of e = last_by (ends e) (past e)

-- what is known behind the `{` of a class
unfoldable pub class_head : Known → Parse Known
class_head k = known_at (head k.bodies k.names)

-- ---- what is stuck

module _ (n : ℕ) (p : Insiders) where
  -- a class among specifiers, which ends them
  unfoldable pub class_here : Known → Places
  class_here k = where_seen begins_class (p.class k) nowhere

  unfoldable pub in_specifiers : Known → Places
  in_specifiers k = behind (specifiers_at n k) (λ s. class_here s.1)

  -- ---- functions with bodies

  unfoldable pub block_at : Names → Places
  block_at names = stuck_at (block (inner by_tree n) (in_block names))

  -- [":" minit {"," minit}] block
  unfoldable pub body : Names → Places
  body names = behind (inits_at n names) (λ _. block_at names)

  abbrev pub body_by : Bodies → Shape → Names → Places
  body_by at_once s names = body (with_params names s)
  body_by left_out s names = nowhere
  body_by (late end) s names = body (with_params (late_names end names) s)

  unfoldable pub defined : Declared × Known → Places
  defined d = body_by d.1.bodies d.0.shape d.1.names

  unfoldable pub behind_declarator : Declared × Known → Places
  behind_declarator d = where_seen begins_body (defined d) nowhere

  unfoldable pub behind_given : ℕ → Given × Known → Places
  behind_given home s = where_seen (sees semicolon) nowhere (behind (declarator_at n home s.0 s.1) behind_declarator)

  -- {spec} and what stands behind them, in a declaration that stands in the last of so many open scopes
  unfoldable pub behind_specifiers : ℕ → Given × Known → Places
  behind_specifiers home s = either (class_here s.1) (behind_given home s)

  unfoldable pub declared : ℕ → Known → Places
  declared home k = behind (specifiers_at n k) (behind_specifiers home)

  -- ---- members and items

  unfoldable pub member : Known → Places
  member k = where_seen (begins (public_word ∷ protected_word ∷ private_word ∷ [])) nowhere (declared (open_scopes k.names) k)

  unfoldable pub item : Known → Places
  item k = where_seen (begins_linkage (inner by_tree n)) nowhere (declared 0 k)

  abbrev pub in_element : Element → Known → Places
  in_element element.Member k = member k
  in_element element.Item k = item k

  unfoldable pub unended_at : Element → Known → Places
  unended_at e = unended (ends n e) (in_element e)

  unfoldable pub row_of : Element → Known → Places
  row_of e k = behind (last_of n e k) (unended_at e)

  -- ---- classes

  -- the names behind the last member that can be read
  abbrev pub spot_names : Option Spot → Option Names
  spot_names None = None
  spot_names (Some p) = Some p.names

  abbrev pub names_if : Bool → Names → Option Names → Option Names
  names_if true names other = Some names
  names_if false names other = other

  abbrev pub names_by : Option (Known × List Token) → (Known → List Token → Option Names) → Option Names
  names_by None f = None
  names_by (Some q) f = f q.0 q.1

  unfoldable pub names_there : Known → List Token → Option Names
  names_there k ts = names_if (sees right_brace ts) k.names (spot_names (unended_at element.Member k ts))

  -- those at the end of the members, or else where one has no spelling
  unfoldable pub end_names : Known → List Token → Option Names
  end_names k ts = names_by (last_of n element.Member k ts) names_there

  abbrev pub with_bodies : Known → Bodies → Known
  with_bodies k bodies = record { names = k.names; bodies = bodies; own = k.own }

  abbrev pub by_names : Option Names → (Names → Option Spot) → Option Spot
  by_names None f = None
  by_names (Some names) f = f names

  unfoldable pub members_late : Known → Names → Places
  members_late k names = row_of element.Member (with_bodies k (late (closed_to (open_scopes k.names) names)))

  -- a class that stands in no other
  unfoldable pub outermost : Known → Places
  outermost k ts = by_names (end_names (with_bodies k left_out) ts) (λ names. members_late k names ts)

  abbrev pub members_by : Bodies → Known → Places
  members_by at_once k = outermost k
  members_by left_out k = row_of element.Member k
  members_by (late names) k = row_of element.Member k

  unfoldable pub in_braces : Known → Places
  in_braces k = members_by k.bodies k

  unfoldable pub class : Known → Places
  class k = behind (class_head k) in_braces

-- the items of a file, to a depth
unfoldable pub items_spot : ℕ → Places
items_spot n = row_of n (places n) element.Item (in_block no_names)

-- where a file is stuck
unfoldable pub file_spot : Places
file_spot ts = stuck_at (file (length ts)) ts
