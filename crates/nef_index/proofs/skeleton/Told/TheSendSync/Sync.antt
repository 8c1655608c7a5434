use denote.Param.Send.{IsSync, sendable}
use Rattle.nef_index.specs.contracts.skeleton.Told.{the_row}

pub sync : IsSync the_row
sync = search sendable
