mod ValidRows
