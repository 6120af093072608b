-- A node of the tables as plain data, and whether each number in it is there: by those of its parts.
use Rattle.std.proofs.Common.{◌≡◌, ℕ, Bool, true, ◌&&◌, List, map, ℤ, None, sym, ap, ◌∙◌}
use Rattle.cf_base.specs.declared.kind.Kind.{Kind}
use Rattle.cf_base.specs.declared.arith.Arith.{Arith}
use Rattle.cf_classes.specs.declared.class.MemberRef.{MemberRef}
use Rattle.cf_core.specs.declared.operators.UnaryOperator.{UnaryOperator}
use Rattle.cf_core.specs.declared.operators.PointerOperator.{PointerOperator}
use Rattle.cf_core.specs.declared.node.Change.{Change}
use Rattle.cf_core.specs.declared.node.Holder.{Holder}
use Rattle.cf_core.specs.declared.node.Core.{Core as Node}
use Rattle.cf_core.specs.declared.node.Core.TheOpen.{Core-F}
use Rattle.cf_core.specs.declared.node.Core.TheFolds.{fold-roll-Core}
use Rattle.cf_core.specs.declared.node.Core.TheVariants as node
use Rattle.cf_core.specs.declared.node.Core.TheVariants.{rolls-Number, rolls-Text, rolls-Local, rolls-Static, rolls-Function, rolls-Read, rolls-Address, rolls-Dereference, rolls-Decay, rolls-Index, rolls-Convert, rolls-FromVoid, rolls-Operate, rolls-Unary, rolls-Not, rolls-And, rolls-Or, rolls-PointerOperate, rolls-Conditional, rolls-Comma, rolls-Store, rolls-Update, rolls-Increment, rolls-Temporary, rolls-List, rolls-Characters, rolls-Bind, rolls-Zeros, rolls-Blank, rolls-Full, rolls-Block, rolls-Sequence, rolls-Declare, rolls-Switch, rolls-Case, rolls-Default, rolls-Break, rolls-Continue, rolls-Call, rolls-PointerCall}
use Rattle.cf_core.specs.Types.{Name}
use Rattle.cf_core.specs.Core.{Core, absent, number, text, local, static_object, function, read, address, dereference, decay, index, convert, from_void, operate, unary, logical_not, logical_and, logical_or, pointer_operate, conditional, comma, store, update, step, temporary, call, pointer_call, list, string, bind, zeros, blank, full, block, sequence, declare, switch, case_label, default_label, leave, continue}
use Rattle.cf_core.specs.FromTypes.{Tables, type_of}
use Rattle.cf_core.specs.Numbers.{has_type, has_holder, all_of, known_step, known_part, are_known}
use Rattle.cf_core.specs.View.{Started, core_step, started_step, core_of, listed, change_of, holder_of}

module _ (T : Tables) (signature : MemberRef → Name) where
  abbrev core : Node → Core
  core = core_of T signature

  pub core-Number : (at : ℕ) (z : ℤ) → core (node.Number at z) ≡ number z
  core-Number at z = ap core (sym (rolls-Number at z)) ∙ fold-roll-Core Core Started (core_step T signature) (started_step T signature) (Core-F.Number at z)

  pub core-Text : (at j : ℕ) (bytes : List ℕ) → core (node.Text at j bytes) ≡ text j bytes
  core-Text at j bytes = ap core (sym (rolls-Text at j bytes)) ∙ fold-roll-Core Core Started (core_step T signature) (started_step T signature) (Core-F.Text at j bytes)

  pub core-Local : (at i : ℕ) → core (node.Local at i) ≡ local i
  core-Local at i = ap core (sym (rolls-Local at i)) ∙ fold-roll-Core Core Started (core_step T signature) (started_step T signature) (Core-F.Local at i)

  pub core-Static : (at : ℕ) (n : List ℕ) (t : ℕ) → core (node.Static at n t) ≡ static_object n (type_of T t)
  core-Static at n t = ap core (sym (rolls-Static at n t)) ∙ fold-roll-Core Core Started (core_step T signature) (started_step T signature) (Core-F.Static at n t)

  pub core-Function : (at : ℕ) (n : List ℕ) (t : ℕ) → core (node.Function at n t) ≡ function n (type_of T t)
  core-Function at n t = ap core (sym (rolls-Function at n t)) ∙ fold-roll-Core Core Started (core_step T signature) (started_step T signature) (Core-F.Function at n t)

  pub core-Read : (at : ℕ) (e : Node) → core (node.Read at e) ≡ read (core e)
  core-Read at e = ap core (sym (rolls-Read at e)) ∙ fold-roll-Core Core Started (core_step T signature) (started_step T signature) (Core-F.Read at e)

  pub core-Address : (at : ℕ) (e : Node) → core (node.Address at e) ≡ address (core e)
  core-Address at e = ap core (sym (rolls-Address at e)) ∙ fold-roll-Core Core Started (core_step T signature) (started_step T signature) (Core-F.Address at e)

  pub core-Dereference : (at : ℕ) (e : Node) → core (node.Dereference at e) ≡ dereference (core e)
  core-Dereference at e = ap core (sym (rolls-Dereference at e)) ∙ fold-roll-Core Core Started (core_step T signature) (started_step T signature) (Core-F.Dereference at e)

  pub core-Decay : (at : ℕ) (e : Node) → core (node.Decay at e) ≡ decay (core e)
  core-Decay at e = ap core (sym (rolls-Decay at e)) ∙ fold-roll-Core Core Started (core_step T signature) (started_step T signature) (Core-F.Decay at e)

  pub core-Index : (at : ℕ) (a b : Node) → core (node.Index at a b) ≡ index (core a) (core b)
  core-Index at a b = ap core (sym (rolls-Index at a b)) ∙ fold-roll-Core Core Started (core_step T signature) (started_step T signature) (Core-F.Index at a b)

  pub core-Convert : (at t : ℕ) (e : Node) → core (node.Convert at t e) ≡ convert (type_of T t) (core e)
  core-Convert at t e = ap core (sym (rolls-Convert at t e)) ∙ fold-roll-Core Core Started (core_step T signature) (started_step T signature) (Core-F.Convert at t e)

  pub core-FromVoid : (at t : ℕ) (e : Node) → core (node.FromVoid at t e) ≡ from_void (type_of T t) (core e)
  core-FromVoid at t e = ap core (sym (rolls-FromVoid at t e)) ∙ fold-roll-Core Core Started (core_step T signature) (started_step T signature) (Core-F.FromVoid at t e)

  pub core-Operate : (at : ℕ) (op : Arith) (k : Kind) (a b : Node) → core (node.Operate at op k a b) ≡ operate op k (core a) (core b)
  core-Operate at op k a b = ap core (sym (rolls-Operate at op k a b)) ∙ fold-roll-Core Core Started (core_step T signature) (started_step T signature) (Core-F.Operate at op k a b)

  pub core-Unary : (at : ℕ) (op : UnaryOperator) (k : Kind) (e : Node) → core (node.Unary at op k e) ≡ unary op k (core e)
  core-Unary at op k e = ap core (sym (rolls-Unary at op k e)) ∙ fold-roll-Core Core Started (core_step T signature) (started_step T signature) (Core-F.Unary at op k e)

  pub core-Not : (at : ℕ) (e : Node) → core (node.Not at e) ≡ logical_not (core e)
  core-Not at e = ap core (sym (rolls-Not at e)) ∙ fold-roll-Core Core Started (core_step T signature) (started_step T signature) (Core-F.Not at e)

  pub core-And : (at : ℕ) (a b : Node) → core (node.And at a b) ≡ logical_and (core a) (core b)
  core-And at a b = ap core (sym (rolls-And at a b)) ∙ fold-roll-Core Core Started (core_step T signature) (started_step T signature) (Core-F.And at a b)

  pub core-Or : (at : ℕ) (a b : Node) → core (node.Or at a b) ≡ logical_or (core a) (core b)
  core-Or at a b = ap core (sym (rolls-Or at a b)) ∙ fold-roll-Core Core Started (core_step T signature) (started_step T signature) (Core-F.Or at a b)

  pub core-PointerOperate : (at : ℕ) (op : PointerOperator) (a b : Node) → core (node.PointerOperate at op a b) ≡ pointer_operate op (core a) (core b)
  core-PointerOperate at op a b = ap core (sym (rolls-PointerOperate at op a b)) ∙ fold-roll-Core Core Started (core_step T signature) (started_step T signature) (Core-F.PointerOperate at op a b)

  pub core-Conditional : (at : ℕ) (c a b : Node) → core (node.Conditional at c a b) ≡ conditional (core c) (core a) (core b)
  core-Conditional at c a b = ap core (sym (rolls-Conditional at c a b)) ∙ fold-roll-Core Core Started (core_step T signature) (started_step T signature) (Core-F.Conditional at c a b)

  pub core-Comma : (at : ℕ) (es : List Node) → core (node.Comma at es) ≡ comma (listed (map core es))
  core-Comma at es = ap core (sym (rolls-Comma at es)) ∙ fold-roll-Core Core Started (core_step T signature) (started_step T signature) (Core-F.Comma at es)

  pub core-Store : (at : ℕ) (a b : Node) → core (node.Store at a b) ≡ store (core a) (core b)
  core-Store at a b = ap core (sym (rolls-Store at a b)) ∙ fold-roll-Core Core Started (core_step T signature) (started_step T signature) (Core-F.Store at a b)

  pub core-Update : (at : ℕ) (a : Node) (c : Change) (b : Node) → core (node.Update at a c b) ≡ update (core a) (change_of c) (core b)
  core-Update at a c b = ap core (sym (rolls-Update at a c b)) ∙ fold-roll-Core Core Started (core_step T signature) (started_step T signature) (Core-F.Update at a c b)

  pub core-Increment : (at : ℕ) (postfix : Bool) (c : Change) (e : Node) → core (node.Increment at postfix c e) ≡ step postfix (change_of c) (core e)
  core-Increment at postfix c e = ap core (sym (rolls-Increment at postfix c e)) ∙ fold-roll-Core Core Started (core_step T signature) (started_step T signature) (Core-F.Increment at postfix c e)

  pub core-Temporary : (at t : ℕ) (e : Node) → core (node.Temporary at t e) ≡ temporary (type_of T t) (core e)
  core-Temporary at t e = ap core (sym (rolls-Temporary at t e)) ∙ fold-roll-Core Core Started (core_step T signature) (started_step T signature) (Core-F.Temporary at t e)

  pub core-List : (at : ℕ) (es : List Node) (rest : Node) → core (node.List at es rest) ≡ list (listed (map core es)) (core rest)
  core-List at es rest = ap core (sym (rolls-List at es rest)) ∙ fold-roll-Core Core Started (core_step T signature) (started_step T signature) (Core-F.List at es rest)

  pub core-Characters : (at : ℕ) (bytes : List ℕ) → core (node.Characters at bytes) ≡ string bytes
  core-Characters at bytes = ap core (sym (rolls-Characters at bytes)) ∙ fold-roll-Core Core Started (core_step T signature) (started_step T signature) (Core-F.Characters at bytes)

  pub core-Bind : (at : ℕ) (h : Holder) (e : Node) → core (node.Bind at h e) ≡ bind (holder_of T h) (core e)
  core-Bind at h e = ap core (sym (rolls-Bind at h e)) ∙ fold-roll-Core Core Started (core_step T signature) (started_step T signature) (Core-F.Bind at h e)

  pub core-Zeros : (at : ℕ) → core (node.Zeros at) ≡ zeros
  core-Zeros at = ap core (sym (rolls-Zeros at)) ∙ fold-roll-Core Core Started (core_step T signature) (started_step T signature) (Core-F.Zeros at)

  pub core-Blank : (at : ℕ) → core (node.Blank at) ≡ blank
  core-Blank at = ap core (sym (rolls-Blank at)) ∙ fold-roll-Core Core Started (core_step T signature) (started_step T signature) (Core-F.Blank at)

  pub core-Full : (at : ℕ) (e : Node) → core (node.Full at e) ≡ full (core e)
  core-Full at e = ap core (sym (rolls-Full at e)) ∙ fold-roll-Core Core Started (core_step T signature) (started_step T signature) (Core-F.Full at e)

  pub core-Block : (at : ℕ) (es : List Node) → core (node.Block at es) ≡ block (listed (map core es))
  core-Block at es = ap core (sym (rolls-Block at es)) ∙ fold-roll-Core Core Started (core_step T signature) (started_step T signature) (Core-F.Block at es)

  pub core-Sequence : (at : ℕ) (es : List Node) → core (node.Sequence at es) ≡ sequence (listed (map core es))
  core-Sequence at es = ap core (sym (rolls-Sequence at es)) ∙ fold-roll-Core Core Started (core_step T signature) (started_step T signature) (Core-F.Sequence at es)

  pub core-Declare : (at i t : ℕ) (e : Node) → core (node.Declare at i t e) ≡ declare i (type_of T t) (core e)
  core-Declare at i t e = ap core (sym (rolls-Declare at i t e)) ∙ fold-roll-Core Core Started (core_step T signature) (started_step T signature) (Core-F.Declare at i t e)

  pub core-Switch : (at : ℕ) (e : Node) (es : List Node) → core (node.Switch at e es) ≡ switch (core e) (listed (map core es))
  core-Switch at e es = ap core (sym (rolls-Switch at e es)) ∙ fold-roll-Core Core Started (core_step T signature) (started_step T signature) (Core-F.Switch at e es)

  pub core-Case : (at : ℕ) (z : ℤ) → core (node.Case at z) ≡ case_label z
  core-Case at z = ap core (sym (rolls-Case at z)) ∙ fold-roll-Core Core Started (core_step T signature) (started_step T signature) (Core-F.Case at z)

  pub core-Default : (at : ℕ) → core (node.Default at) ≡ default_label
  core-Default at = ap core (sym (rolls-Default at)) ∙ fold-roll-Core Core Started (core_step T signature) (started_step T signature) (Core-F.Default at)

  pub core-Break : (at : ℕ) → core (node.Break at) ≡ leave
  core-Break at = ap core (sym (rolls-Break at)) ∙ fold-roll-Core Core Started (core_step T signature) (started_step T signature) (Core-F.Break at)

  pub core-Continue : (at : ℕ) → core (node.Continue at) ≡ continue
  core-Continue at = ap core (sym (rolls-Continue at)) ∙ fold-roll-Core Core Started (core_step T signature) (started_step T signature) (Core-F.Continue at)

  pub core-Call : (at : ℕ) (f : List ℕ) (t : ℕ) (es : List Node) → core (node.Call at f t None es) ≡ call f (type_of T t) absent (listed (map core es))
  core-Call at f t es = ap core (sym (rolls-Call at f t None es)) ∙ fold-roll-Core Core Started (core_step T signature) (started_step T signature) (Core-F.Call at f t None es)

  pub core-PointerCall : (at : ℕ) (e : Node) (t : ℕ) (es : List Node) → core (node.PointerCall at None e t es) ≡ pointer_call absent (core e) (type_of T t) (listed (map core es))
  core-PointerCall at e t es = ap core (sym (rolls-PointerCall at None e t es)) ∙ fold-roll-Core Core Started (core_step T signature) (started_step T signature) (Core-F.PointerCall at None e t es)

module _ (T : Tables) where
  abbrev known : Node → Bool
  known = are_known T

  pub known-Number : (at : ℕ) (z : ℤ) → known (node.Number at z) ≡ (true)
  known-Number at z = ap known (sym (rolls-Number at z)) ∙ fold-roll-Core Bool Bool (known_step T) (known_part T) (Core-F.Number at z)

  pub known-Text : (at j : ℕ) (bytes : List ℕ) → known (node.Text at j bytes) ≡ (true)
  known-Text at j bytes = ap known (sym (rolls-Text at j bytes)) ∙ fold-roll-Core Bool Bool (known_step T) (known_part T) (Core-F.Text at j bytes)

  pub known-Local : (at i : ℕ) → known (node.Local at i) ≡ (true)
  known-Local at i = ap known (sym (rolls-Local at i)) ∙ fold-roll-Core Bool Bool (known_step T) (known_part T) (Core-F.Local at i)

  pub known-Static : (at : ℕ) (n : List ℕ) (t : ℕ) → known (node.Static at n t) ≡ (has_type T t)
  known-Static at n t = ap known (sym (rolls-Static at n t)) ∙ fold-roll-Core Bool Bool (known_step T) (known_part T) (Core-F.Static at n t)

  pub known-Function : (at : ℕ) (n : List ℕ) (t : ℕ) → known (node.Function at n t) ≡ (has_type T t)
  known-Function at n t = ap known (sym (rolls-Function at n t)) ∙ fold-roll-Core Bool Bool (known_step T) (known_part T) (Core-F.Function at n t)

  pub known-Read : (at : ℕ) (e : Node) → known (node.Read at e) ≡ (known e)
  known-Read at e = ap known (sym (rolls-Read at e)) ∙ fold-roll-Core Bool Bool (known_step T) (known_part T) (Core-F.Read at e)

  pub known-Address : (at : ℕ) (e : Node) → known (node.Address at e) ≡ (known e)
  known-Address at e = ap known (sym (rolls-Address at e)) ∙ fold-roll-Core Bool Bool (known_step T) (known_part T) (Core-F.Address at e)

  pub known-Dereference : (at : ℕ) (e : Node) → known (node.Dereference at e) ≡ (known e)
  known-Dereference at e = ap known (sym (rolls-Dereference at e)) ∙ fold-roll-Core Bool Bool (known_step T) (known_part T) (Core-F.Dereference at e)

  pub known-Decay : (at : ℕ) (e : Node) → known (node.Decay at e) ≡ (known e)
  known-Decay at e = ap known (sym (rolls-Decay at e)) ∙ fold-roll-Core Bool Bool (known_step T) (known_part T) (Core-F.Decay at e)

  pub known-Index : (at : ℕ) (a b : Node) → known (node.Index at a b) ≡ (known a && known b)
  known-Index at a b = ap known (sym (rolls-Index at a b)) ∙ fold-roll-Core Bool Bool (known_step T) (known_part T) (Core-F.Index at a b)

  pub known-Convert : (at t : ℕ) (e : Node) → known (node.Convert at t e) ≡ (has_type T t && known e)
  known-Convert at t e = ap known (sym (rolls-Convert at t e)) ∙ fold-roll-Core Bool Bool (known_step T) (known_part T) (Core-F.Convert at t e)

  pub known-FromVoid : (at t : ℕ) (e : Node) → known (node.FromVoid at t e) ≡ (has_type T t && known e)
  known-FromVoid at t e = ap known (sym (rolls-FromVoid at t e)) ∙ fold-roll-Core Bool Bool (known_step T) (known_part T) (Core-F.FromVoid at t e)

  pub known-Operate : (at : ℕ) (op : Arith) (k : Kind) (a b : Node) → known (node.Operate at op k a b) ≡ (known a && known b)
  known-Operate at op k a b = ap known (sym (rolls-Operate at op k a b)) ∙ fold-roll-Core Bool Bool (known_step T) (known_part T) (Core-F.Operate at op k a b)

  pub known-Unary : (at : ℕ) (op : UnaryOperator) (k : Kind) (e : Node) → known (node.Unary at op k e) ≡ (known e)
  known-Unary at op k e = ap known (sym (rolls-Unary at op k e)) ∙ fold-roll-Core Bool Bool (known_step T) (known_part T) (Core-F.Unary at op k e)

  pub known-Not : (at : ℕ) (e : Node) → known (node.Not at e) ≡ (known e)
  known-Not at e = ap known (sym (rolls-Not at e)) ∙ fold-roll-Core Bool Bool (known_step T) (known_part T) (Core-F.Not at e)

  pub known-And : (at : ℕ) (a b : Node) → known (node.And at a b) ≡ (known a && known b)
  known-And at a b = ap known (sym (rolls-And at a b)) ∙ fold-roll-Core Bool Bool (known_step T) (known_part T) (Core-F.And at a b)

  pub known-Or : (at : ℕ) (a b : Node) → known (node.Or at a b) ≡ (known a && known b)
  known-Or at a b = ap known (sym (rolls-Or at a b)) ∙ fold-roll-Core Bool Bool (known_step T) (known_part T) (Core-F.Or at a b)

  pub known-PointerOperate : (at : ℕ) (op : PointerOperator) (a b : Node) → known (node.PointerOperate at op a b) ≡ (known a && known b)
  known-PointerOperate at op a b = ap known (sym (rolls-PointerOperate at op a b)) ∙ fold-roll-Core Bool Bool (known_step T) (known_part T) (Core-F.PointerOperate at op a b)

  pub known-Conditional : (at : ℕ) (c a b : Node) → known (node.Conditional at c a b) ≡ (known c && known a && known b)
  known-Conditional at c a b = ap known (sym (rolls-Conditional at c a b)) ∙ fold-roll-Core Bool Bool (known_step T) (known_part T) (Core-F.Conditional at c a b)

  pub known-Comma : (at : ℕ) (es : List Node) → known (node.Comma at es) ≡ (all_of T (map known es))
  known-Comma at es = ap known (sym (rolls-Comma at es)) ∙ fold-roll-Core Bool Bool (known_step T) (known_part T) (Core-F.Comma at es)

  pub known-Store : (at : ℕ) (a b : Node) → known (node.Store at a b) ≡ (known a && known b)
  known-Store at a b = ap known (sym (rolls-Store at a b)) ∙ fold-roll-Core Bool Bool (known_step T) (known_part T) (Core-F.Store at a b)

  pub known-Update : (at : ℕ) (a : Node) (c : Change) (b : Node) → known (node.Update at a c b) ≡ (known a && known b)
  known-Update at a c b = ap known (sym (rolls-Update at a c b)) ∙ fold-roll-Core Bool Bool (known_step T) (known_part T) (Core-F.Update at a c b)

  pub known-Increment : (at : ℕ) (postfix : Bool) (c : Change) (e : Node) → known (node.Increment at postfix c e) ≡ (known e)
  known-Increment at postfix c e = ap known (sym (rolls-Increment at postfix c e)) ∙ fold-roll-Core Bool Bool (known_step T) (known_part T) (Core-F.Increment at postfix c e)

  pub known-Temporary : (at t : ℕ) (e : Node) → known (node.Temporary at t e) ≡ (has_type T t && known e)
  known-Temporary at t e = ap known (sym (rolls-Temporary at t e)) ∙ fold-roll-Core Bool Bool (known_step T) (known_part T) (Core-F.Temporary at t e)

  pub known-List : (at : ℕ) (es : List Node) (rest : Node) → known (node.List at es rest) ≡ (all_of T (map known es) && known rest)
  known-List at es rest = ap known (sym (rolls-List at es rest)) ∙ fold-roll-Core Bool Bool (known_step T) (known_part T) (Core-F.List at es rest)

  pub known-Characters : (at : ℕ) (bytes : List ℕ) → known (node.Characters at bytes) ≡ (true)
  known-Characters at bytes = ap known (sym (rolls-Characters at bytes)) ∙ fold-roll-Core Bool Bool (known_step T) (known_part T) (Core-F.Characters at bytes)

  pub known-Bind : (at : ℕ) (h : Holder) (e : Node) → known (node.Bind at h e) ≡ (has_holder T h && known e)
  known-Bind at h e = ap known (sym (rolls-Bind at h e)) ∙ fold-roll-Core Bool Bool (known_step T) (known_part T) (Core-F.Bind at h e)

  pub known-Zeros : (at : ℕ) → known (node.Zeros at) ≡ (true)
  known-Zeros at = ap known (sym (rolls-Zeros at)) ∙ fold-roll-Core Bool Bool (known_step T) (known_part T) (Core-F.Zeros at)

  pub known-Blank : (at : ℕ) → known (node.Blank at) ≡ (true)
  known-Blank at = ap known (sym (rolls-Blank at)) ∙ fold-roll-Core Bool Bool (known_step T) (known_part T) (Core-F.Blank at)

  pub known-Full : (at : ℕ) (e : Node) → known (node.Full at e) ≡ (known e)
  known-Full at e = ap known (sym (rolls-Full at e)) ∙ fold-roll-Core Bool Bool (known_step T) (known_part T) (Core-F.Full at e)

  pub known-Block : (at : ℕ) (es : List Node) → known (node.Block at es) ≡ (all_of T (map known es))
  known-Block at es = ap known (sym (rolls-Block at es)) ∙ fold-roll-Core Bool Bool (known_step T) (known_part T) (Core-F.Block at es)

  pub known-Sequence : (at : ℕ) (es : List Node) → known (node.Sequence at es) ≡ (all_of T (map known es))
  known-Sequence at es = ap known (sym (rolls-Sequence at es)) ∙ fold-roll-Core Bool Bool (known_step T) (known_part T) (Core-F.Sequence at es)

  pub known-Declare : (at i t : ℕ) (e : Node) → known (node.Declare at i t e) ≡ (has_type T t && known e)
  known-Declare at i t e = ap known (sym (rolls-Declare at i t e)) ∙ fold-roll-Core Bool Bool (known_step T) (known_part T) (Core-F.Declare at i t e)

  pub known-Switch : (at : ℕ) (e : Node) (es : List Node) → known (node.Switch at e es) ≡ (known e && all_of T (map known es))
  known-Switch at e es = ap known (sym (rolls-Switch at e es)) ∙ fold-roll-Core Bool Bool (known_step T) (known_part T) (Core-F.Switch at e es)

  pub known-Case : (at : ℕ) (z : ℤ) → known (node.Case at z) ≡ (true)
  known-Case at z = ap known (sym (rolls-Case at z)) ∙ fold-roll-Core Bool Bool (known_step T) (known_part T) (Core-F.Case at z)

  pub known-Default : (at : ℕ) → known (node.Default at) ≡ (true)
  known-Default at = ap known (sym (rolls-Default at)) ∙ fold-roll-Core Bool Bool (known_step T) (known_part T) (Core-F.Default at)

  pub known-Break : (at : ℕ) → known (node.Break at) ≡ (true)
  known-Break at = ap known (sym (rolls-Break at)) ∙ fold-roll-Core Bool Bool (known_step T) (known_part T) (Core-F.Break at)

  pub known-Continue : (at : ℕ) → known (node.Continue at) ≡ (true)
  known-Continue at = ap known (sym (rolls-Continue at)) ∙ fold-roll-Core Bool Bool (known_step T) (known_part T) (Core-F.Continue at)

  pub known-Call : (at : ℕ) (f : List ℕ) (t : ℕ) (es : List Node) → known (node.Call at f t None es) ≡ (has_type T t && true && all_of T (map known es))
  known-Call at f t es = ap known (sym (rolls-Call at f t None es)) ∙ fold-roll-Core Bool Bool (known_step T) (known_part T) (Core-F.Call at f t None es)

  pub known-PointerCall : (at : ℕ) (e : Node) (t : ℕ) (es : List Node) → known (node.PointerCall at None e t es) ≡ (true && known e && has_type T t && all_of T (map known es))
  known-PointerCall at e t es = ap known (sym (rolls-PointerCall at None e t es)) ∙ fold-roll-Core Bool Bool (known_step T) (known_part T) (Core-F.PointerCall at None e t es)
