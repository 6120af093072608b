-- A body, made of its parts.
use Rattle.std.specs.Prelude.{List}
use Rattle.cc_whole.specs.declared.statement.CLocal.{CLocal}
use Rattle.cc_whole.specs.declared.statement.CStatement.{CStatement}
use Rattle.cc_whole.specs.declared.statement.CBody.{CBody, roll-CBody}

abbrev pub made_body : List CLocal → List CStatement → CBody
made_body locals statements = roll-CBody (record { locals = locals; statements = statements })
