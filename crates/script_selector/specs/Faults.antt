-- The text of the selector's faults. Assumes nothing.
use Rattle.std.specs.Prelude.{ℕ, List}
use Rattle.selector.specs.Faults.{fault_number}
use Rattle.selector.specs.FaultText.{selector_fault_fields}
use Rattle.selector.specs.declared.error.JaggedError.{JaggedError}
use Rattle.script.specs.Records.{fault}

abbrev pub fault_text : JaggedError → List ℕ
fault_text f = fault (fault_number f) (selector_fault_fields f)
