-- What is written for a built function is the definition's.
use Rattle.std.proofs.Common.{◌≡◌, ℕ, suc, ◌+◌, true, false, not, ◌&&◌, List, [], ◌∷◌, ◌++◌, map, length, drop, reverse, refl, ap, sym, ◌∙◌, arith}
use Rattle.std.specs.Prelude.{if◌then◌else◌}
use Rattle.std.specs.declared.alloc.Global.{Global}
use Rattle.std.proofs.lemmas.List.{length-map, reverse-append}
use Rattle.cf_base.proofs.Tests.{both}
use Rattle.cf_classes.specs.declared.class.MemberRef.{MemberRef}
use Rattle.cf_core.specs.declared.unit.CoreFn.{CoreFn}
use Rattle.cf_core.specs.Types.{Name, SourceType, parameters, result, is_class}
use Rattle.cf_core.specs.Classes.{Class}
use Rattle.cf_core.specs.Core.{Function, Static}
use Rattle.cf_core.specs.FromTypes.{Tables, type_of}
use Rattle.cf_core.specs.FromClasses.{signature_of}
use Rattle.cf_core.specs.FromUnit.{function_of}
use Rattle.cf_plain.specs.Plain.{Plains, nothing}
use Rattle.cf_plain.specs.View as plain
use Rattle.cf_plain.specs.View.{plains_of}
use Rattle.cf_sequence.specs.Built.{is_row, is_statement, arms_fit, is_body}
use Rattle.cf_sequence.specs.Made.{Local, width, numbered, declared}
use Rattle.cf_sequence.specs.Expressions.{finished}
use Rattle.cf_sequence.specs.Statements.{Inside, statement}
use Rattle.cf_sequence.specs.Sequenced.{inside, flowed_off, sequenced_body, sequenced_function}
use Rattle.cf_sequence_expr.specs.declared.writing.Writing.{Writing}
use Rattle.cf_sequence_expr.specs.Parameters.{parameters_at}
use Rattle.cf_sequence_stmt.specs.declared.body.Body.{Body}
use Rattle.cf_sequence_stmt.specs.Bodies.{left_to}
use Rattle.cf_sequence_stmt.specs.Steps.{step, inside_loop}
use Rattle.cf_sequence_fn.specs.Functions.{opens_from, begun, written_body, written_function}
use Rattle.cf_sequence_written.proofs.Followed.{followed-end}
use Rattle.cf_sequence_written.proofs.Parameters.{RowOf, parameters-taking}
use Rattle.cf_sequence_written.proofs.Evaluated.{is-false}
use Rattle.cf_sequence_written.proofs.Adding.{adding, Adds}
use Rattle.cf_sequence_written.proofs.Opens.{ends, ends-more, finished-more}
use Rattle.cf_sequence_written.proofs.Bodies.{Goes, goes-left}
use Rattle.cf_sequence_written.proofs.Standing.{Stands, stands-in_loop}
use Rattle.cf_sequence_written.proofs.Statements.{Acts, stated-statement}
use Rattle.cf_sequence_written.proofs.Stated.{Stated, written-statement}

module _ (tables : Tables) where
  -- the parameters of a function, as the definition ends them
  ends-from : (k : ℕ) (ts : List ℕ) → ends tables (opens_from k ts) ≡ reverse (numbered k (map (type_of tables) ts))
  ends-from k [] = refl
  ends-from k (t ∷ ts) =
      let x : Local = record { number = k; type = type_of tables t } in
      ap (λ ls. ls ++ x ∷ []) (ends-from (suc k) ts) ∙ sym (reverse-append (x ∷ []) (numbered (suc k) (map (type_of tables) ts)))

  module _ (params : (t : ℕ) → map (type_of tables) (parameters_at tables.types t) ≡ parameters (type_of tables t))
      (rows : (t : ℕ) → is_row (type_of tables t) ≡ true → RowOf tables t) (classes : List Class) (statics : List Static)
      (alloc : Global) (f : CoreFn) (built : is_body (function_of tables f) ≡ true) where
    abbrev signature : MemberRef → Name
    signature = signature_of tables

    abbrev F : Function
    F = function_of tables f

    abbrev I : Inside
    I = inside classes statics F

    params-are : parameters F.type ≡ map (type_of tables) f.params
    params-are = parameters-taking (map (type_of tables) f.params) (type_of tables f.result) false

    scalar : is_class (result F.type) ≡ false
    scalar = is-false (is_class (result F.type)) (both (not (is_class (result F.type))) (is_statement (length (parameters F.type)) F.body && arms_fit (length (parameters F.type) + length F.locals) F.body) built).0

    is-stated : is_statement (length (parameters F.type)) F.body ≡ true
    is-stated =
        (both (is_statement (length (parameters F.type)) F.body) (arms_fit (length (parameters F.type) + length F.locals) F.body)
        (both (not (is_class (result F.type))) (is_statement (length (parameters F.type)) F.body && arms_fit (length (parameters F.type) + length F.locals) F.body) built).1).0

    abbrev start : Body
    start = begun alloc f

    ends-start : I.returns ≡ ends tables start.scope
    ends-start = ap (λ ts. reverse (numbered 0 ts)) params-are ∙ sym (ends-from 0 f.params)

    -- in no loop and no switch
    stands : Stands tables I (inside_loop start) start.scope
    stands = record {
      breaks = Stands.breaks (stands-in_loop tables start outer);
      continues = Stands.continues (stands-in_loop tables start outer);
      returns = ends-start;
      breaks_within = omega arith;
      continues_within = omega arith;
      scalar = scalar;
    }
      where
        -- as if all that is open stood in one scope
        outer : Stands tables (record I { breaks = I.returns; continues = I.returns }) (record { breaks = 0; continues = 0 }) start.scope
        outer = record { breaks = ends-start; continues = ends-start; returns = ends-start; breaks_within = omega arith; continues_within = omega arith; scalar = scalar }

    goes : Goes tables signature (λ k rest. statement I F.body k rest) (width F.body) (declared F.body) start ((step tables.types f.body).act (inside_loop start) start)
    goes = Acts.acts (Stated.acts (written-statement tables signature params rows f.body))
        (stated-statement (length (parameters F.type)) F.body is-stated) I (inside_loop start) start stands

    flowed : finished (reverse (numbered 0 (parameters F.type))) nothing ≡ flowed_off F
    flowed = ap (λ c. if c then nothing else finished (reverse (numbered 0 (parameters F.type))) nothing) (sym scalar)

    body-is : plains_of tables signature (Writing.code (Body.writing (written_body tables.types alloc f))) ≡ sequenced_body classes statics F
    unfolding written_body
    body-is =
        let after = (step tables.types f.body).act (inside_loop start) start in
        let count : length f.params + length f.locals ≡ length (parameters F.type) + length F.locals =
        let one = length-map f.params (type_of tables) in let two = length-map f.locals (type_of tables) in let three = ap length params-are in omega (arith, one, two, three) in
        sym (followed-end tables signature (Writing.code (Body.writing (left_to 0 after))))
        ∙ Goes.code (goes-left tables signature 0 after) nothing
        ∙ Goes.code goes (finished (ends tables (drop 0 after.scope)) nothing)
        ∙ ap (λ k. statement I F.body k (finished (ends tables (drop 0 after.scope)) nothing)) count
        ∙ ap (λ ls. statement I F.body (length (parameters F.type) + length F.locals) (finished ls nothing))
        (ap (ends tables) (Goes.scope goes) ∙ ends-more tables start.scope (Goes.opens goes) ∙ ap (λ ls. ls ++ ends tables start.scope) (Goes.ends goes)
        ∙ ap (λ ls. declared F.body ++ ls) (sym ends-start))
        ∙ ap (λ ss. statement I F.body (length (parameters F.type) + length F.locals) ss) (finished-more (declared F.body) I.returns nothing ∙ ap (finished (declared F.body)) flowed)

    pub function-is : plain.function_of tables (written_function tables.types alloc f) ≡ sequenced_function classes statics F
    unfolding written_function
    function-is =
        ap (λ (ls : List SourceType). record (plain.function_of tables (written_function tables.types alloc f)) { locals = ls }) (Adds.adds (adding tables signature params f.body) f.locals)
        ∙ ap (λ (ss : Plains). record (sequenced_function classes statics F) { body = ss }) body-is
