-- What the system tells of a journal, and the numbers of the device that it is asked of.
-- Source: the file journal_task that sysfs has for each ext4 (ext3 is one too): the number of the
-- process that writes the journal, and a newline; and in place of the number `<none>` where the
-- file system was made without a journal. makedev(3), as glibc has it (sys/sysmacros.h): the major
-- number of a device is its bits 8 to 19 and, above these 12, its bits 44 to 63; the minor number
-- its bits 0 to 7 and, above these 8, its bits 20 to 43.
use Rattle.std.specs.Prelude.{ℕ, ◌+◌, ◌*◌, ◌/◌, ◌%◌, ◌^◌, Bool, List, codes, is_some}
use Rattle.idtext.specs.Numbers.{id_of}
use Rattle.unify_apply.specs.Ends.{without_end}

abbrev pub tells_process : List ℕ → Bool
tells_process text = is_some (id_of (without_end (codes "\n") text))

-- ---- devices

-- the number that so many bits of another write, from this one on
abbrev pub bits_from : ℕ → ℕ → ℕ → ℕ
bits_from first count number = number / 2 ^ first % 2 ^ count

-- the two numbers of the device with this number
abbrev pub major_of : ℕ → ℕ
major_of device = bits_from 44 20 device * 2 ^ 12 + bits_from 8 12 device

abbrev pub minor_of : ℕ → ℕ
minor_of device = bits_from 20 24 device * 2 ^ 8 + device % 2 ^ 8
