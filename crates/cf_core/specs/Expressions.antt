-- The meaning of expressions and initialisers (5, 8.4, 12).
use Rattle.std.specs.Prelude.{ℕ, suc, ◌-◌, nat_le, length, true, false, ◌&&◌, ◌||◌, not, if◌then◌else◌, List, [], ◌∷◌, pos, Option, Some, None}
use Rattle.cf_core.specs.Types.{SourceType, is_class, is_array, array, parameters, plain, element}
use Rattle.cf_core.specs.Core.{Core, Cores, MaybeCore, item, no_temporary, local_temporary, static_temporary, none, more, absent, given, number, text, this, local, static_object, function, member, read, address, dereference, decay, index, convert, up, down, from_void, to_member, data_pointer, function_pointer, through, operate, unary, logical_not, logical_and, logical_or, pointer_operate, conditional, comma, store, update, step, assign, temporary, call, virtual_call, pointer_call, new, new_array, delete, delete_array, build, copy, each, list, string, bind, zeros, blank}
use Rattle.cf_core.specs.Places.{Place, inner}
use Rattle.cf_core.specs.Store.{Value, Built, Number, At, Code, DataMember, FunctionMember}
use Rattle.cf_core.specs.Run.{Act, ◌>>=◌, ◌>>◌, gives, malformed, state, done, some_or, valid, when, for_each, declared_object, frame_changed, lists_in_scope, lists_temporary}
use Rattle.cf_core.specs.Access.{place_type, place_has, using, placed, name_field, read_place, write_place, followed, fill_zeros}
use Rattle.cf_core.specs.Pointers.{truth_value, pointer_op, from_void_value, down_value}
use Rattle.cf_core.specs.Building.{dispatch, up_value}
use Rattle.cf_core.specs.Calls.{Program, Again, root, run_named, name_function, full_expression, finish_static, copy_to, assign_to, delete_value}
use Rattle.cf_core.specs.Scalars.{truth_of, converted_value, operated, signed, changed_value, indexed, decayed, pointed_to, to_derived, through_pointer}
use Rattle.cf_core.specs.Objects.{result_place, local_place, static_type, static_place, same_type, literal_object, new_local, settled, built_at, character_kind, write_bytes, element_part, element_count, begin_list, end_list, costs_tick, one_tick, count_of, new_storage, count, run_pointer}

module _ (again : Again) (P : Program) where
  abbrev mutual
    -- What an expression gives. A node that builds an object in place, as a constructor's call does, builds it at the place that is
    -- given; any other gives its value. Operands go from left to right.
    pub value : Core → Option Place → Act Value
    value (number z) into = gives (Number z)
    value (text j bytes) into = literal_object j bytes >>= (λ o. gives (At (root o)))
    value this into = state >>= (λ s. some_or s.frame.this malformed) >>= (λ p. gives (At p))
    value (local i) into = local_place i >>= followed P.classes
    value (static_object name t) into = same_type P name t >> static_place P name >>= followed P.classes
    value (function name t) into = name_function P name t >> gives (Code name)
    value (member e i) into = placed (value e None) >>= name_field P.classes i >>= followed P.classes
    value (read e) into = placed (value e None) >>= read_place P.classes
    value (address e) into = using (value e None)
    value (dereference e) into = using (value e None) >>= pointed_to
    value (decay e) into = using (value e None) >>= decayed P.classes
    value (index a i) into = do
      x ← using (value a None)
      y ← using (value i None)
      indexed P.classes x y
    value (convert t e) into = value e None >>= converted_value t
    value (up path e) into = using (value e None) >>= up_value P.classes path
    value (down c path e) into = using (value e None) >>= down_value P.classes c path
    value (from_void t e) into = using (value e None) >>= from_void_value P.classes t
    value (to_member path e) into = using (value e None) >>= to_derived path
    value (data_pointer i) into = gives (DataMember [] i)
    value (function_pointer t) into = gives (FunctionMember [] t)
    value (through e m) into = do
      p ← placed (value e None)
      x ← using (value m None)
      through_pointer P.classes p x
    value (operate op k a b) into = do
      x ← using (value a None)
      y ← using (value b None)
      operated op k x y
    value (unary op k e) into = using (value e None) >>= signed op k
    value (logical_not e) into = value e None >>= truth_of >>= (λ b. gives (truth_value (not b)))
    value (logical_and a b) into = do
      x ← value a None >>= truth_of
      when x (value b None >>= truth_of >>= (λ y. gives (truth_value y))) (gives (truth_value false))
    value (logical_or a b) into = do
      x ← value a None >>= truth_of
      when x (gives (truth_value true)) (value b None >>= truth_of >>= (λ y. gives (truth_value y)))
    value (pointer_operate op a b) into = do
      x ← using (value a None)
      y ← using (value b None)
      pointer_op P.classes op x y
    value (conditional c a b) into = do
      x ← value c None >>= truth_of
      when x (value a None) (value b None)
    value (comma es) into = last_value es
    value (store a b) into = do
      p ← placed (value a None)
      x ← using (value b None)
      write_place P.classes p x
      gives (At p)
    value (update a change b) into = do
      p ← placed (value a None)
      y ← using (value b None)
      x ← read_place P.classes p
      z ← changed_value P.classes change x y
      write_place P.classes p z
      gives (At p)
    value (step is_postfix change e) into = do
      p ← placed (value e None)
      x ← read_place P.classes p
      z ← changed_value P.classes change x (Number (pos 1))
      write_place P.classes p z
      gives (if is_postfix then x else At p)
    value (assign t a b es) into = do
      to ← placed (value a None)
      place_has P.classes t to
      from ← placed (value b None)
      place_has P.classes t from
      assign_to again P (λ ts. arguments ts es) t from to
      gives (At to)
    value (temporary t e) into = do
      o ← declared_object t
      settled P.classes (root o) (value e (Some (root o)))
      frame_changed (lists_temporary o)
      gives (At (root o))
    value (call name t object args) into = do
      name_function P name t
      p ← object_place object
      os ← arguments (parameters t) args
      run_named again P name os p (result_place t into)
    value (virtual_call signature t object args) into = do
      p ← placed (value object None)
      os ← arguments (parameters t) args
      f ← dispatch P.classes p signature
      run_named again P f.name os (Some f.this) (result_place t into)
    value (pointer_call object e t args) into = do
      p ← object_place object
      f ← using (value e None)
      os ← arguments (parameters t) args
      run_pointer again P p f os (result_place t into)
    value (new t e) into =
        new_storage P false t (λ o. settled P.classes (root o) (value e (Some (root o))) >> gives (At (root o)))
    value (new_array t n e) into = do
      i ← using (value n None) >>= count_of
      new_storage P true (array t i) (λ o.
          settled P.classes (root o) (value e (Some (root o))) >> gives (At (inner (item 0) (root o))))
    value (delete t e) into = using (value e None) >>= delete_value again P false t
    value (delete_array t e) into = using (value e None) >>= delete_value again P true t
    value (build name t args) into = do
      p ← built_at into
      os ← arguments (parameters t) args
      run_named again P name os (Some p) None
      gives Built
    value (copy t e es) into = do
      to ← built_at into
      place_has P.classes t to
      from ← placed (value e None)
      place_has P.classes t from
      copy_to again P (λ ts. arguments ts es) t from to
      gives Built
    value (each e) into = do
      p ← built_at into
      s ← state
      let t = place_type P.classes s p
      valid (is_array t)
      for_each 0 (element_count P.classes t) (λ i.
          one_tick (costs_tick e P.classes (element (plain t)))
          >> full_expression again P (settled P.classes (inner (item i) p) (value e (Some (inner (item i) p)))))
      gives Built
    value (list es rest) into = do
      p ← built_at into
      s ← state
      let t = place_type P.classes s p
      let n = element_count P.classes t
      valid ((is_array t || is_class t) && nat_le (count es) n)
      when (is_class t) (begin_list p) done
      elements es 0 p t
      for_each (count es) (n - count es) (λ i.
          let q = inner (element_part t i) p in
          one_tick (is_array t && costs_tick rest P.classes (element (plain t)))
          >> full_expression again P (settled P.classes q (value rest (Some q))))
      when (is_class t) (end_list p) done
      gives Built
    value (string bytes) into = do
      p ← built_at into
      s ← state
      let t = place_type P.classes s p
      valid (is_array t && nat_le (length bytes) (element_count P.classes t))
      fill_zeros P.classes p
      write_bytes (character_kind t) p 0 bytes
      gives Built
    value (bind no_temporary e) into = value e None
    value (bind (local_temporary i t) e) into = do
      o ← new_local i t
      settled P.classes (root o) (value e (Some (root o)))
      frame_changed (lists_in_scope o)
      gives (At (root o))
    value (bind (static_temporary name) e) into = do
      p ← static_place P name
      settled P.classes p (value e (Some p))
      finish_static P (static_type P name) p.object
      gives (At p)
    value zeros into = built_at into >>= fill_zeros P.classes >> gives Built
    value blank into = gives Built
    value e into = malformed

    -- a comma's expressions in order; the value is the last one's (5.18)
    pub last_value : Cores → Act Value
    last_value none = malformed
    last_value (more e none) = value e None
    last_value (more e (more f rest)) = value e None >> last_value (more f rest)

    pub object_place : MaybeCore → Act (Option Place)
    object_place absent = gives None
    object_place (given e) = placed (value e None) >>= (λ p. gives (Some p))

    -- each parameter is built as its argument is evaluated (5.2.2)
    pub arguments : List SourceType → Cores → Act (List ℕ)
    arguments [] none = gives []
    arguments [] (more e es) = malformed
    arguments (t ∷ ts) none = malformed
    arguments (t ∷ ts) (more e es) = do
      o ← declared_object t
      settled P.classes (root o) (value e (Some (root o)))
      os ← arguments ts es
      gives (o ∷ os)

    -- each element of a list by itself (8.4.1)
    pub elements : Cores → ℕ → Place → SourceType → Act (Unit {0})
    elements none i p t = done
    elements (more e es) i p t =
        let q = inner (element_part t i) p in
        one_tick (is_array t && costs_tick e P.classes (element (plain t)))
        >> full_expression again P (settled P.classes q (value e (Some q)))
        >> elements es (suc i) p t
