-- All switches of the board.
use Rattle.std.specs.Prelude.{Bool, cond, not, ◌&&◌, Some, None, Option, slice_index_or}
use Rattle.axis.specs.declared.direction.Direction.{Direction}
use Rattle.axis.specs.declared.direction.Direction.TheVariants.{Clockwise, Counterclockwise}
use Rattle.inputs.specs.Contacts.{inactive}
use Rattle.inputs.specs.Switches.{place}
use Rattle.inputs.specs.declared.switch.Switch.{Switch}
use Rattle.inputs.specs.declared.switch.Switch.TheVariants.{ClockwiseLimit, CounterclockwiseLimit, Clear, Hold, FirstInput, SecondInput, Stop}
use Rattle.inputs.specs.declared.contact.Contact.{Contact}
use Rattle.inputs.specs.declared.panel.Panel.{Panel}
use Rattle.inputs.specs.declared.panel.Turned.{Turned}
use Rattle.inputs.specs.declared.panel.Input.{Input}
use Rattle.inputs.specs.declared.panel.Input.TheVariants.{First, Second, Third, Fourth}

abbrev pub contact : Panel → Switch → Contact
contact p s = slice_index_or p.contacts (place s) inactive

abbrev pub active : Panel → Switch → Bool
active p s = (contact p s).accepted

-- active now and not before
abbrev pub turns : Panel → Panel → Switch → Bool
turns was is s = active is s && not (active was s)

abbrev pub turned : Panel → Panel → Turned
turned was is = record { clear = turns was is Clear; hold = turns was is Hold; stop = turns was is Stop }

abbrev pub limit : Direction → Switch
limit Clockwise = ClockwiseLimit
limit Counterclockwise = CounterclockwiseLimit

-- as inputs 3 and 4 the limit switches forbid nothing
abbrev pub forbidden : Panel → Direction → Bool → Bool
forbidden p way as_inputs = not as_inputs && active p (limit way)

abbrev pub read : Panel → Input → Bool → Option Bool
read p First as_inputs = Some (active p FirstInput)
read p Second as_inputs = Some (active p SecondInput)
read p Third as_inputs = cond as_inputs (Some (active p ClockwiseLimit)) None
read p Fourth as_inputs = cond as_inputs (Some (active p CounterclockwiseLimit)) None
