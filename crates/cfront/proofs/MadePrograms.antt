-- From what the steps from a file to its program leave to what stands between them.
use Rattle.std.proofs.Common.{◌≡◌, ◌∙◌, ℕ, List, refl, sym, Result, Ok, Err, IsTrue, inl, inr}
use Rattle.cf_base.specs.Disk.{Disk, SameElsewhere}
use Rattle.cc_whole.specs.declared.unit.CProgram.{CProgram}
use Rattle.cf_compile.specs.Compiles.{IsCompiled}
use Rattle.cf_compile.specs.declared.compiled.Compiled.{Compiled}
use Rattle.cfront.specs.declared.answer.Answer.{Answer}
use Rattle.cfront.specs.declared.answer.Stop.{Stop}
use Rattle.cfront.specs.declared.answer.Stop.TheVariants as stop
use Rattle.cfront.specs.declared.translating.Program.{Program}
use Rattle.cfront.specs.Cause.{not_linked, past_static, text_stands}
use Rattle.cfront.specs.Steps.{DiskStands, WasWritten, LinkLeaves, MadeOf, StopLeaves}
use Rattle.cfront.specs.Translated.{WasRead, Translated, TextStands, DiskCountsStand}
use Rattle.cfront.specs.Words.{text_name}

module _ (file bytes name : List ℕ) (old mid new : Disk) (read : WasRead file old bytes) (disk : DiskStands old mid)
    (named : name ≡ text_name file) (made : Compiled) (is : IsCompiled bytes made) (written : WasWritten name made.text.items mid new) where
  -- the text stands, whatever comes behind it
  stands : TextStands file old new made.unit
  stands = record {
    translated = record {
      bytes = bytes;
      read = read;
      source = is.core;
      taken = is.taken;
      text = made.text.items;
      written = λ told. rw (← named) (written.here (disk.told told));
      keeps = is.keeps;
    };
    elsewhere = λ told. rw (← named, ← disk.content) (written.elsewhere (disk.told told));
    counts = record { reads = written.counts.reads ∙ disk.counts.reads; writes = written.counts.writes ∙ disk.counts.writes };
  }

  -- its unit links to a program
  pub made_of : (program : CProgram) → LinkLeaves made.unit (Ok program) → MadeOf file old new (record { program = program; frame = made.frame })
  unfolding stands
  made_of program linked = record { made = record { unit = made.unit; stands = stands; linked = linked }; frame = is.frame }

  -- or does not
  pub link_stops : (e : Stop) → LinkLeaves made.unit (Err e) → StopLeaves file old new e
  link_stops (stop.Answer a) (inl fault) =
      not_linked (record { unit = made.unit; stands = stands; refusal = fault.refusal; refused = fault.refused; answered = fault.answered })
  link_stops (stop.Answer a) (inr limit) = past_static (record { unit = made.unit; stands = stands; passed = limit.passed; answered = limit.answered })
  link_stops stop.Memory same = record { text = text_stands made.unit stands.translated; elsewhere = stands.elsewhere; counts = stands.counts }
