-- What is not refused runs.
use Rattle.std.proofs.Common.{◌≡◌, ◌∙◌, ℕ, ◌≤◌, ◌<◌, Bool, true, false, List, [], ◌∷◌, Some, Ok, Err, length, refl, sym, ap, subst, arith, inl, inr, get_or, IsTrue, IsSomeAnd}
use Rattle.cc_whole.specs.declared.unit.CUnit.{CUnit}
use Rattle.cc_whole.specs.declared.unit.CProgram.{CProgram}
use Rattle.cc_whole.specs.Plain.{items_of}
use Rattle.cc_whole_limits.specs.Nodes.{nodes_of}
use Rattle.cc_whole_limits.specs.StartLimit.{most_nodes, most_frames}
use Rattle.cc_whole_link.specs.Link.{Refusal as LinkRefusal}
use Rattle.cc_whole_linked.specs.Limited.{LinkAnswer, LinksWithin, linked, refused as not_linked_by, past_the_limit}
use Rattle.cc_whole_run.specs.declared.types.Limits.{Limits}
use Rattle.cf_compile.specs.Takes.{Takes, FilesAreTakenOnce}
use Rattle.cf_core.specs.FromUnit.{Unit as CoreUnit}
use Rattle.cf_first.specs.First.{Refusal, breaks, passes}
use Rattle.cf_translate.specs.Translated.{Translates}
use Rattle.cfront.specs.declared.outcome.Outcome.{Outcome}
use Rattle.cfront.specs.declared.outcome.Outcome.TheVariants as answer
use Rattle.cfront.specs.declared.position.Position.{Position}
use Rattle.cfront.specs.Answer.{Answers, WordsCause, EndsWith, LineStands, is_fault}
use Rattle.cfront.specs.Cause.{FileCause, read_failed, too_long, limited, refused, write_failed, not_linked, past_static, Stopped, stopped, NotStarted, not_started, StartStops, passes_nodes, passes_frames, frames_of_source, MayStart, Ran, ran, GoCause}
use Rattle.cfront.specs.LastLine.{last_line}
use Rattle.cfront.specs.Meant.{LinksAndStarts, Unhindered, UnhinderedFilesRun, RanAndTold, UnhinderedWordsRun}
use Rattle.cfront.specs.Outside.{Outside, with_err}
use Rattle.cfront.specs.Translated.{WasRead, Translated, most_bytes}
use Rattle.cfront.specs.Words.{IsGo, files_of}
use Rattle.cfront.proofs.Causes.{fault_is}

abbrev pub LinkingHasOneAnswer : Type 0
LinkingHasOneAnswer = (units : List CUnit) (a b : LinkAnswer) → LinksWithin units a → LinksWithin units b → a ≡ b

too_many : {A : Type 0} (n m : ℕ) → m < n → n ≤ m → A
too_many n m past within = absurd (omega arith)

module _ (once : FilesAreTakenOnce) (one : LinkingHasOneAnswer) (file : List ℕ) (limits : Limits) (old new : Outside) (u : Unhindered file limits old.files) where
  same_bytes : (bytes : List ℕ) → WasRead file old.files bytes → bytes ≡ u.bytes
  same_bytes bytes read = let e : Some bytes ≡ Some u.bytes = sym (read.holds u.told) ∙ u.holds in cc

  not_refused : {A : Type 0} (bytes : List ℕ) (r : Refusal) → WasRead file old.files bytes → Takes bytes (Err r) → A
  not_refused bytes r read refuses =
      let e = once u.bytes (Ok u.source) (Err r) u.taken (subst (λ b. Takes b (Err r)) (same_bytes bytes read) refuses) in absurd (cc)

  same_source : (unit : CUnit) (t : Translated file old.files new.files unit) → u.source ≡ t.source
  same_source unit t =
      let e = once u.bytes (Ok u.source) (Ok t.source) u.taken (subst (λ b. Takes b (Ok t.source)) (same_bytes t.bytes t.read) t.taken) in cc

  -- the unit that stands links to a program that may start
  goes : (unit : CUnit) (t : Translated file old.files new.files unit) → LinksAndStarts t.source limits unit
  goes unit t =
      subst (λ s. Translates s unit t.text → LinksAndStarts s limits unit) (same_source unit t) (u.runs unit t.text) t.keeps.translated

  links_to_it : {A : Type 0} (unit : CUnit) (t : Translated file old.files new.files unit) (a : LinkAnswer) → LinksWithin (unit ∷ []) a
      → ((p : CProgram) → a ≡ linked p → A) → A
  links_to_it unit t a links go = let g = goes unit t in go g.program (one (unit ∷ []) a (linked g.program) links g.links)

  long_enough : {A : Type 0} → IsSomeAnd (old.files.content file) (λ bytes. most_bytes < length bytes) → A
  long_enough long =
      let here = subst (λ o. IsSomeAnd o (λ bytes. most_bytes < length bytes)) u.holds long in too_many (length u.bytes) most_bytes here u.short

  no_fault_here : {A : Type 0} (outcome : Outcome) → outcome ≡ answer.FileFault → is_fault outcome ≡ false → A
  no_fault_here outcome e no_fault = let k : false ≡ true = sym (fault_is outcome answer.FileFault e no_fault) in absurd (cc)

  no_stop : {A : Type 0} (position : Position) (outcome : Outcome) → FileCause file old.files new.files position outcome → is_fault outcome ≡ false → A
  no_stop position outcome (read_failed r) no_fault = no_fault_here outcome r.answered no_fault
  no_stop position outcome (too_long r) no_fault = long_enough (r.long u.told)
  no_stop position outcome (limited r) no_fault = not_refused r.bytes (passes r.limited.limit) r.read r.limited.passed
  no_stop position outcome (refused r) no_fault = not_refused r.bytes _ r.read r.refused.refused
  no_stop position outcome (write_failed r) no_fault = no_fault_here outcome r.answered no_fault
  no_stop position outcome (not_linked r) no_fault =
      links_to_it r.unit r.stands.translated (not_linked_by r.refusal) r.refused (λ p e. absurd (cc))
  no_stop position outcome (past_static r) no_fault = links_to_it r.unit r.stands.translated past_the_limit r.passed (λ p e. absurd (cc))

  may_start : {A : Type 0} (program p : CProgram) (source : CoreUnit) (outcome : Outcome) → p ≡ program → MayStart p source limits
      → StartStops program source limits outcome → A
  may_start program p source outcome same may (passes_nodes past e) =
      too_many (nodes_of (items_of program.items)) most_nodes past (subst (λ (x : CProgram). nodes_of (items_of x.items) ≤ most_nodes) same may.nodes)
  may_start program p source outcome same may (passes_frames within past e) = too_many (frames_of_source source limits) most_frames past may.frames

  same_program : (p q : CProgram) → linked p ≡ linked q → q ≡ p
  same_program p q e = cc

  no_halt : {A : Type 0} (outcome : Outcome) → NotStarted file limits old new outcome → A
  no_halt outcome n =
      let t = n.made.stands.translated in
      let g = goes n.made.unit t in
      may_start n.program g.program t.source outcome
      (same_program n.program g.program (one (n.made.unit ∷ []) (linked n.program) (linked g.program) n.made.linked g.links)) g.starts n.stops

  runs : (position : Position) (outcome : Outcome) → GoCause file limits old new position outcome → is_fault outcome ≡ false → Ran file limits old new outcome
  runs position outcome (stopped s) no_fault = no_stop position outcome s.cause no_fault
  runs position outcome (not_started n) no_fault = no_halt outcome n
  runs position outcome (ran r) no_fault = r

pub unhindered_files_run : FilesAreTakenOnce → LinkingHasOneAnswer → UnhinderedFilesRun
unhindered_files_run once one file limits old new position outcome u cause no_fault = runs once one file limits old new u position outcome cause no_fault

-- ---- with the last line

same_file : (words : List (List ℕ)) (f g : List ℕ) → IsGo words f → IsGo words g → f ≡ g
same_file words f g a b = ap (λ ws. get_or ws 1 []) (sym a.spelled ∙ b.spelled)

module _ (names : List (List ℕ)) (file : List ℕ) (limits : Limits) (old new : Outside) (position : Position) where
  told_so : (err : _) (before outcome : Outcome) → err ≡ old.err → before ≡ outcome → Ran file limits old (with_err new err) before
      → LineStands (last_line names position before) before outcome err new.err → RanAndTold file limits names old new outcome
  told_so err before outcome e b r line = record {
    position = position;
    ran = subst (λ o. Ran file limits old (with_err new old.err) o) b (subst (λ x. Ran file limits old (with_err new x) before) e r);
    line = subst (λ o. LineStands (last_line names position o) o outcome old.err new.err) b
        (subst (λ x. LineStands (last_line names position before) before outcome x new.err) e line);
  }

sink_failed : {A : Type 0} (outcome : Outcome) → outcome ≡ answer.SinkFault → is_fault outcome ≡ false → A
sink_failed outcome e no_fault = let k : false ≡ true = sym (fault_is outcome answer.SinkFault e no_fault) in absurd (cc)

module _ (once : FilesAreTakenOnce) (one : LinkingHasOneAnswer) (words : List (List ℕ)) (file : List ℕ) (limits : Limits) (old new : Outside) (outcome : Outcome)
    (go : IsGo words file) (u : Unhindered file limits old.files) (no_fault : is_fault outcome ≡ false) where
  line_stands : (position : Position) (before : Outcome) (err : _) → GoCause file limits old (with_err new err) position before
      → EndsWith (last_line (files_of words) position before) before outcome err new.err → RanAndTold file limits (files_of words) old new outcome
  line_stands position before err cause (inl line) =
      let r = runs once one file limits old (with_err new err) u position before cause (fault_is outcome before line.same no_fault) in
      told_so (files_of words) file limits old new position err before outcome r.err (sym line.same) r line
  line_stands position before err cause (inr failed) = sink_failed outcome failed.fault no_fault

  of_words : (a : Answers (WordsCause words limits) (files_of words) old new outcome) → WordsCause words limits old (with_err new a.err) a.position a.before
      → RanAndTold file limits (files_of words) old new outcome
  of_words a (inl nothing) = absurd (nothing.none file go)
  of_words a (inr job) =
      line_stands a.position a.before a.err
      (subst (λ f. GoCause f limits old (with_err new a.err) a.position a.before) (same_file words job.file file job.job go) job.cause) a.line

pub unhindered_words_run : FilesAreTakenOnce → LinkingHasOneAnswer → UnhinderedWordsRun
unhindered_words_run once one words file limits old new outcome go u a no_fault = of_words once one words file limits old new outcome go u no_fault a a.caused
