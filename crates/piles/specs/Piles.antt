-- What the meaning of an axis is at two piles.
use Rattle.axis.specs.declared.interface.Axis.{Ghosts}
use Rattle.pin.specs.declared.drive.PinAxis.{PinAxis}
use Rattle.phase.specs.declared.drive.PhaseAxis.{PhaseAxis}
use Rattle.pin.specs.contracts.drive.PinAxis.{the_row as pin_row}
use Rattle.phase.specs.contracts.drive.PhaseAxis.{the_row as phase_row}
use Rattle.pin.specs.contracts.drive.PinAxisAxis.TheImpl.{ghosts as pin_ghosts, dict as pin_dict}
use Rattle.phase.specs.contracts.drive.PhaseAxisAxis.TheImpl.{ghosts as phase_ghosts, dict as phase_dict}
use Rattle.layers.specs.declared.fence.Fence.{Fence}
use Rattle.layers.specs.declared.reversed.Reversed.{Reversed}
use Rattle.layers.specs.contracts.fence.Fence.{the_row as fence_row}
use Rattle.layers.specs.contracts.reversed.Reversed.{the_row as reversed_row}
use Rattle.layers.specs.contracts.fence.FenceAxis.TheImpl.{ghosts as fence_ghosts, dict as fence_dict}
use Rattle.layers.specs.contracts.reversed.ReversedAxis.TheImpl.{ghosts as reversed_ghosts, dict as reversed_dict}

-- reversed over fence over pin
abbrev pub standard_pile : Ghosts (Reversed (Fence PinAxis))
standard_pile = reversed_ghosts (fence_row pin_row) (fence_ghosts pin_row pin_ghosts pin_dict) (fence_dict pin_row pin_ghosts pin_dict)

-- fence over reversed over phase
abbrev pub phase_pile : Ghosts (Fence (Reversed PhaseAxis))
phase_pile = fence_ghosts (reversed_row phase_row) (reversed_ghosts phase_row phase_ghosts phase_dict) (reversed_dict phase_row phase_ghosts phase_dict)
