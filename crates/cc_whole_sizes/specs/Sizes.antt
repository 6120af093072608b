-- The locals of items, and sizes in bytes that fit 32 bits.
use Rattle.std.specs.Prelude.{◌≡◌, ℕ, ◌^◌, nat_lt, Bool, true, List, [], ◌++◌}
use Rattle.std.specs.List.{list_all}
use Rattle.cc_whole.specs.declared.statement.CLocal.{CLocal}
use Rattle.cc_whole.specs.declared.unit.CVariable.{CVariable}
use Rattle.cc_whole.specs.Plain.{Function, Statement, assign, call, block, leave, next, choose, loop, select, give, Statements, done, followed, SwitchItems, closed, labelled, otherwise, stated, Body, body, Item, functions_of, variables_of}
use Rattle.cc_whole_mean.specs.Types.{local_size, variable_size}

-- the locals of a body and of the bodies in it
abbrev mutual
  pub locals_of : Statement → List CLocal
  locals_of (assign p e) = []
  locals_of (call p c es) = []
  locals_of (block b) = locals_of_body b
  locals_of leave = []
  locals_of next = []
  locals_of (choose e b other) = locals_of_body b ++ locals_of_body other
  locals_of (loop b) = locals_of_body b
  locals_of (select e items) = locals_of_switch items
  locals_of (give e) = []

  pub locals_of_all : Statements → List CLocal
  locals_of_all done = []
  locals_of_all (followed s rest) = locals_of s ++ locals_of_all rest

  pub locals_of_switch : SwitchItems → List CLocal
  locals_of_switch closed = []
  locals_of_switch (labelled c rest) = locals_of_switch rest
  locals_of_switch (otherwise rest) = locals_of_switch rest
  locals_of_switch (stated s rest) = locals_of s ++ locals_of_switch rest

  pub locals_of_body : Body → List CLocal
  locals_of_body (body locals all) = locals ++ locals_of_all all

abbrev pub fits_32_bits : ℕ → Bool
fits_32_bits size = nat_lt size (2 ^ 32)

abbrev pub local_fits : CLocal → Bool
local_fits x = fits_32_bits (local_size x.ty)

abbrev pub variable_fits : CVariable → Bool
variable_fits v = fits_32_bits (variable_size v.ty)

abbrev pub locals_fit : Function → Bool
locals_fit f = list_all local_fits (locals_of_body f.body)

-- each local of the functions that items define, and each variable that they define
pub record SizesFit (items : List Item) : Type 0 where
  pub locals : list_all locals_fit (functions_of items) ≡ true
  pub variables : list_all variable_fits (variables_of items) ≡ true
