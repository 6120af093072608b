-- Members of a class up to its `}`, and classes (9), read step by step: the readings by words that stay shut.
use Rattle.std.specs.Prelude.{ℕ, List, [], ◌∷◌, ◌++◌, length, Option, None}
use Rattle.cf_syntax.specs.declared.type_names.NameKind.{NameKind}
use Rattle.cf_syntax.specs.declared.type_names.NameKind.TheVariants as kind
use Rattle.cf_syntax.specs.NamesData.{Names}
use Rattle.cf_syntax.specs.Grammar.{sees}
use Rattle.cf_syntax.specs.Parse.{Parse, pure, with_rest, then, word}
use Rattle.cf_parse_member.specs.declared.heads.Head.{Head}
use Rattle.cf_parse_member.specs.Heads.{head}
use Rattle.cf_parse_member.specs.Members.{one_member}
use Rattle.cf_unit.specs.declared.class.ClassDef.{ClassDef}
use Rattle.cf_unit.specs.declared.class.Member.{Member}
use Rattle.cf_unit.specs.Known.{Known, with_names, open_scopes, closed_to}
use Rattle.cf_unit.specs.Pieces.{right_brace}
use Rattle.cf_unit.specs.Read.{element, row, up_to}
use Rattle.cf_unit.specs.Rule.{Bodies, at_once, left_out, late}

abbrev pub with_ways : Known → Bodies → Known
with_ways k ways = record { names = k.names; bodies = ways; own = k.own }

abbrev pub with_own : Known → Option (List ℕ) → Known
with_own k own = record { names = k.names; bodies = k.bodies; own = own }

-- where bodies are read late, the classes in them are known too
abbrev pub names_after : Bodies → Names → Names
names_after at_once names = names
names_after left_out names = names
names_after (late end) names = end

-- behind a class that stands in no other
abbrev pub behind_outermost : ℕ → Known → Known
behind_outermost home k = record { names = closed_to home (names_after k.bodies k.names); bodies = at_once; own = None }

abbrev pub class_of : Head → List Member → ClassDef × NameKind
class_of h all = (record { at = h.at; key = h.key; name = h.name; bases = h.bases; members = all }, kind.OfClass h.class)

module _ (depth : ℕ) where
  unfoldable pub next_member : List Member × Known → Parse (List Member × Known)
  next_member s = then (one_member depth s.1) (λ x. pure (s.0 ++ x.0 ∷ [], x.1))

  unfoldable pub all_members : Known → Parse (List Member × Known)
  all_members k ts = with_rest (row (λ s. element (sees right_brace) (next_member s)) (length ts) ([], k) ts) (up_to (sees right_brace))

  -- {member} "}"
  unfoldable pub members : Known → Parse (List Member × Known)
  members k = then (all_members k) (λ all. then (word right_brace) (λ _. pure all))

  -- the names at the end, where bodies are left out
  unfoldable pub names_at_end : Known → Parse Names
  names_at_end k = then (members (with_ways k left_out)) (λ all. pure (closed_to (open_scopes k.names) all.1.names))

  -- twice over the same tokens: bodies are read with the names at the end
  unfoldable pub outermost : ℕ → Known → Parse (List Member × Known)
  outermost home k ts = with_rest (names_at_end k ts) (λ end _.
      with_rest (members (with_ways k (late end)) ts) (λ all. pure (all.0, behind_outermost home all.1)))

  unfoldable pub nested : ℕ → Known → Parse (List Member × Known)
  nested home k = then (members k) (λ all. pure (all.0, with_names all.1 (closed_to home all.1.names)))

  unfoldable pub members_by : Bodies → ℕ → Known → Parse (List Member × Known)
  members_by at_once home k = outermost home k
  members_by left_out home k = nested home k
  members_by (late names) home k = nested home k

  -- {member} "}" behind a head
  unfoldable pub class_behind : ℕ → Head → Known → Parse ((ClassDef × NameKind) × Known)
  class_behind home h k = then (members_by k.bodies home k) (λ all. pure (class_of h all.0, all.1))

  unfoldable pub class : Known → Parse ((ClassDef × NameKind) × Known)
  class k = then (head k.bodies k.names) (λ h. then (class_behind (open_scopes k.names) h.0 h.1) (λ x. pure (x.0, with_own x.1 k.own)))
