mod RunsAlone
