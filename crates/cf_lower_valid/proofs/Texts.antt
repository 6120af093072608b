-- The items of a lowered file have a text.
use Rattle.std.proofs.Common.{◌≡◌, true, List, [], ◌++◌, length, map, refl, ap, subst, ◌∙◌, inl, inr}
use Rattle.std.specs.Prelude.{filter}
use Rattle.std.specs.List.{list_all}
use Rattle.std.specs.Fmt.{digits}
use Rattle.cf_base.proofs.Tests.{all_of}
use Rattle.cf_core.specs.Types.{parameters, result as result_type}
use Rattle.cf_plain.specs.Plain.{PlainFunction, PlainStatic, PlainFile}
use Rattle.cf_plain.specs.Named.{all_actions}
use Rattle.cc_whole_tokens.specs.Token.{is_word_byte, is_name}
use Rattle.cc_whole.specs.declared.statement.CLocal.{CLocal}
use Rattle.cc_whole.specs.Plain.{Item, declares, defines, in_order}
use Rattle.cc_whole.specs.Spellable.{good_locals, spellable_statements, spellable_body, spellable_prototype, spellable_item, spellable_items}
use Rattle.cf_lower.specs.Kept.{nothing_kept}
use Rattle.cf_lower.specs.Statements.{all_lowered, no_value}
use Rattle.cf_lower.specs.Constants.{nothing_known}
use Rattle.cf_lower.specs.Functions.{all_bound, all_nesting, inside, prototype, lowered_function, owner_of, library, constants_function, own_prototypes, own_variables, named_in, defined_elsewhere, lowered_file}
use Rattle.cf_lower_program.specs.Lowerable.{Lowerable}
use Rattle.cc_whole_sections.specs.Sections.{In, Every}
use Rattle.cc_whole_sections.proofs.Names.{in-left, in-right}
use Rattle.cf_lower_valid.proofs.Digits.{numbered-name}
use Rattle.cf_lower_valid.proofs.Inner.{mapped-in, every-mapped, every-append}
use Rattle.cf_lower_valid.proofs.Spans.{locals_after}
use Rattle.cf_lower_valid.proofs.Own.{letters}
use Rattle.cf_lower_valid.proofs.Scopes.{local-names}
use Rattle.cf_lower_valid.proofs.Spelled.{spelled-append, spelled-in-order, all-spelled, no-value-spelled}
use Rattle.cf_lower_valid.proofs.SpelledStarts.{starts-spelled, flat-spelled, helper-spelled}
use Rattle.cf_lower_valid.proofs.Tests.{file_of, all-in, in-all, tested, names-told, function-told}
use Rattle.cf_lower_valid.proofs.Starts.{start_code, stores}
use Rattle.cf_lower_valid.proofs.Files.{elsewhere-from}

library-spelled : list_all spellable_item library ≡ true
unfolding digits
library-spelled = refl

-- ---- files

letter-byte : Every (λ c. is_word_byte c ≡ true) letters
letter-byte c (inl e) = subst (λ c. is_word_byte c ≡ true) e refl
letter-byte c (inr (inl e)) = subst (λ c. is_word_byte c ≡ true) e refl
letter-byte c (inr (inr (inl e))) = subst (λ c. is_word_byte c ≡ true) e refl
letter-byte c (inr (inr (inr (inl e)))) = subst (λ c. is_word_byte c ≡ true) e refl
letter-byte c (inr (inr (inr (inr (inl e))))) = subst (λ c. is_word_byte c ≡ true) e refl
letter-byte c (inr (inr (inr (inr (inr (inl e)))))) = subst (λ c. is_word_byte c ≡ true) e refl
letter-byte c (inr (inr (inr (inr (inr (inr h)))))) = absurd h

module _ (fs : List PlainFunction) (xs : List PlainStatic) (low : Lowerable (file_of fs xs)) where
  abbrev file : PlainFile
  file = file_of fs xs

  abbrev Spelled : Item → Type 0
  Spelled i = spellable_item i ≡ true

  tested-spelled : Every Spelled (tested fs xs low)
  tested-spelled = (names-told fs xs low).spelled

  locals-named : (f : PlainFunction) → In f fs → good_locals (locals_after (length (parameters f.type)) f.locals (all_bound f.body) (all_nesting f.body) (all_actions f.body)) ≡ true
  locals-named f h =
      let t = function-told fs xs low f h in
      in-all (λ (x : CLocal). is_name x.name) (locals_after (length (parameters f.type)) f.locals (all_bound f.body) (all_nesting f.body) (all_actions f.body))
      (λ x k.
      let e = local-names (parameters f.type) f.locals (all_bound f.body) (all_nesting f.body) (all_actions f.body) t.few t.registers t.flags x k in
      ap is_name e.is ∙ numbered-name e.letter e.number (letter-byte e.letter e.is_letter))

  function-spelled : (f : PlainFunction) → In f fs → Spelled (defines (lowered_function [] f))
  function-spelled f h =
      let code = all_lowered f.body (inside [] f) nothing_kept ++ no_value (result_type f.type) in
      all_of (spellable_prototype (prototype f)) (spellable_body (lowered_function [] f).body)
      (tested-spelled (declares (prototype f))
      (in-left (declares (prototype f)) (own_prototypes file ++ own_variables file) (named_in file)
      (in-left (declares (prototype f)) (own_prototypes file) (own_variables file) (mapped-in (λ (f : PlainFunction). declares (prototype f)) f fs h))))
      (all_of (good_locals (locals_after (length (parameters f.type)) f.locals (all_bound f.body) (all_nesting f.body) (all_actions f.body))) (spellable_statements (in_order code))
      (locals-named f h)
      (spelled-in-order code (spelled-append (all_lowered f.body (inside [] f) nothing_kept) (no_value (result_type f.type))
      (all-spelled f.body (inside [] f) nothing_kept tt tt) (no-value-spelled (result_type f.type)))))

  pub file-spelled : spellable_items (lowered_file file) ≡ true
  file-spelled =
      let own = own_prototypes file in
      let other = defined_elsewhere file in
      let vars = own_variables file in
      let functions : List Item = map (λ (f : PlainFunction). defines (lowered_function [] f)) fs in
      let helper = constants_function (stores fs xs low) in
      in-all spellable_item (lowered_file file)
      (every-append Spelled (library ++ own ++ other ++ vars ++ functions) helper
      (every-append Spelled (library ++ own ++ other ++ vars) functions
      (every-append Spelled (library ++ own ++ other) vars
      (every-append Spelled (library ++ own) other
      (every-append Spelled library own (all-in spellable_item library library-spelled) (λ i h. tested-spelled i (in-left i (own ++ vars) (named_in file) (in-left i own vars h))))
      (λ i h. tested-spelled i (in-right i (own ++ vars) (named_in file) (elsewhere-from fs xs low i h))))
      (λ i h. tested-spelled i (in-left i (own ++ vars) (named_in file) (in-right i own vars h))))
      (every-mapped Spelled (λ (f : PlainFunction). defines (lowered_function [] f)) fs function-spelled))
      (helper-spelled (stores fs xs low)
      (flat-spelled (start_code fs xs low) (filter (λ (x : PlainStatic). x.is_constant) xs) (λ x. starts-spelled (owner_of x) x.start nothing_known))))
