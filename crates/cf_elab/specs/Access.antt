-- Who may use a member (11).
use Rattle.std.specs.Prelude.{ℕ, Bool, true, false, ◌==◌, ◌&&◌, ◌||◌, if◌then◌else◌, List, [], ◌∷◌, map, Option, None, Some, slice_get, bytes_eq}
use Rattle.std.specs.List.{list_any}
use Rattle.std.specs.Option.{option_map_or}
use Rattle.cf_classes.specs.declared.class.Access.{Access}
use Rattle.cf_classes.specs.declared.class.Access.TheVariants as access
use Rattle.cf_classes.specs.declared.class.BaseDef.{BaseDef}
use Rattle.cf_classes.specs.declared.class.ClassDef.{ClassDef}
use Rattle.cf_classes.specs.declared.class.MemberRef.{MemberRef}
use Rattle.cf_classes.specs.declared.class.Friend.{Friend}
use Rattle.cf_classes.specs.declared.class.Friend.TheVariants as friend
use Rattle.cf_classes.specs.ClassTable.{definition, members_of}
use Rattle.cf_classes.specs.Subobject.{paths, class_at}

-- what is used: a member, or any public member that a class declared, by which a base is accessible
pub data Used : Type 0 where
  member : MemberRef → Used
  public_of : ℕ → Used

-- who asks: a function of the file by its name and type, or a member
pub data Asker : Type 0 where
  outside : List ℕ → ℕ → Asker
  inside : MemberRef → Asker

module _ (defs : List (ℕ × ClassDef)) where
  abbrev pub declared_access : Used → Access
  declared_access (member m) = option_map_or (λ def. def.access) (slice_get (members_of defs m.class) m.index) access.Public
  declared_access (public_of c) = access.Public

  abbrev pub declaring : Used → ℕ
  declaring (member m) = m.class
  declaring (public_of c) = c

  -- through a base: a public one keeps public and protected, a private one makes both private, and a private member is not reached
  abbrev pub through : Access → Option Access → Option Access
  through b None = None
  through b (Some access.Private) = None
  through access.Private (Some a) = Some access.Private
  through b (Some a) = Some a

  abbrev pub more_generous : Option Access → Option Access → Option Access
  more_generous None b = b
  more_generous a None = a
  more_generous (Some access.Public) b = Some access.Public
  more_generous a (Some access.Public) = Some access.Public
  more_generous (Some access.Protected) b = Some access.Protected
  more_generous a (Some access.Protected) = Some access.Protected
  more_generous a b = a

  abbrev pub most_generous : List (Option Access) → Option Access
  most_generous [] = None
  most_generous (a ∷ rest) = more_generous a (most_generous rest)

  -- The access of a member named in a class: as declared there, or the most generous over the direct bases; none where it is not reached.
  abbrev pub access_as : List (ℕ × ClassDef) → Used → ℕ → Option Access
  access_as [] u c = None
  access_as (d ∷ older) u c =
      elim (c == d.0) as (λ _. Option Access) [
        | true ↦ if declaring u == c then Some (declared_access u) else most_generous (map (λ (b : BaseDef). through b.access (access_as older u b.class)) d.1.bases)
        | false ↦ access_as older u c
      ]

  -- ---- members and friends

  abbrev pub is_friend : Asker → Friend → Bool
  is_friend (outside name t) (friend.Function n u) = bytes_eq name n && (t == u)
  is_friend (outside name t) other = false
  is_friend (inside m) (friend.Class c) = m.class == c
  is_friend (inside m) (friend.Member n) = (m.class == n.class) && (m.index == n.index)
  is_friend (inside m) other = false

  abbrev pub is_member : Asker → ℕ → Bool
  is_member (outside name t) c = false
  is_member (inside m) c = m.class == c

  abbrev pub belongs : Asker → ℕ → Bool
  belongs who c = is_member who c || list_any (is_friend who) (option_map_or (λ def. def.friends) (definition defs c) [])

  -- whether d is c or derived from it
  abbrev pub derives : ℕ → ℕ → Bool
  derives d c = list_any (λ p. class_at defs d p == c) (paths defs d)

  -- ---- uses

  -- protected members are used by members and friends of derived classes, on objects of these classes
  abbrev pub by_derived : Asker → (ℕ → Bool) → ℕ → Bool
  by_derived who on c = list_any (λ (d : ℕ × ClassDef). derives d.0 c && belongs who d.0 && on d.0) defs

  abbrev pub direct_as : Asker → (ℕ → Bool) → ℕ → Option Access → Bool
  direct_as who on c None = false
  direct_as who on c (Some access.Public) = true
  direct_as who on c (Some access.Private) = belongs who c
  direct_as who on c (Some access.Protected) = belongs who c || by_derived who on c

  abbrev pub direct : Asker → (ℕ → Bool) → Used → ℕ → Bool
  direct who on u c = direct_as who on c (access_as defs u c)

  abbrev pub any_object : ℕ → Bool
  any_object d = true

  -- A member may be used as it is named, or as named in an accessible base; a base is accessible itself, or through another that is.
  abbrev pub may_use : List (ℕ × ClassDef) → Asker → (ℕ → Bool) → Used → ℕ → Bool
  may_use [] who on u c = false
  may_use (d ∷ older) who on u c =
      elim (c == d.0) as (λ _. Bool) [
        | true ↦
            direct who on u c
            || list_any (λ (b : BaseDef).
            (direct who any_object (public_of b.class) c
            || list_any (λ (o : BaseDef). direct who any_object (public_of o.class) c && may_use older who any_object (public_of b.class) o.class) d.1.bases)
            && may_use older who on u b.class) d.1.bases
        | false ↦ may_use older who on u c
      ]

  -- ---- the answer

  abbrev pub is_static_member : Used → Bool
  is_static_member (member m) = option_map_or (λ def. def.is_static) (slice_get (members_of defs m.class) m.index) true
  is_static_member (public_of c) = true

  abbrev pub on_object : Bool → Option ℕ → ℕ → Bool
  on_object true via d = true
  on_object false None d = true
  on_object false (Some c) d = derives c d

  -- the rule that the use breaks, if any: 38 where the member may not be used, and 39 where only through another object
  abbrev pub fault : Asker → Used → ℕ → Option ℕ → Option ℕ
  fault who u naming via =
      if may_use defs who (on_object (is_static_member u) via) u naming then None
      else (if may_use defs who any_object u naming then Some 39 else Some 38)

  abbrev pub is_accessible : Asker → ℕ → ℕ → Bool
  is_accessible who base derived = may_use defs who any_object (public_of base) derived
